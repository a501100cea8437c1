-- How the settings of a table are looked at, one after another, with what was seen of those before carried along. What it amounts to is `fit_table`
-- and the sums of `settled` (specs/Configuring.antt), by which the call looks at them where they lie; the contract of `is_settled` says that the two
-- give the same. A reader need not look here.
use Rattle.std.specs.Prelude.{ℕ, zero, suc, ◌+◌, Bool, true, false, not, ◌&&◌, ◌||◌, List, [], ltb, leb, eqb, length, get_or, set, replicate, if◌then◌else◌}
use Rattle.walks.specs.Fold.{fold_from}
use Rattle.channel.specs.declared.record.Addresses.{Addresses}
use Rattle.channel.specs.declared.record.Settings.{Settings}
use Rattle.channel.specs.Prefixes.{no_prefix}
use Rattle.channel.specs.Settings.{fit, clash}
use Rattle.channel.specs.Pairs.{pairs_from}
use Rattle.table.specs.Lent.{area_of}

-- by index: whom a record names as its spare, whether its units have a leading octet, and its direction
pub record Routes : Type 0 where
  pub spares : List ℕ
  pub leads : List ℕ
  pub ways : List ℕ

-- whether all is well so far, the slots and the octets together, and by index the addresses and the routes
pub record Seen : Type 0 where
  pub sound : Bool
  pub slots : ℕ
  pub octets : ℕ
  pub addresses : List Addresses
  pub routes : Routes

-- what stands at an index that nothing was noted at
abbrev pub nowhere : Addresses
nowhere = record { channel = 0; remote = 0; direction = 0; prefix = no_prefix; own = no_prefix }

-- what `get_or` gives past the end of the array, where nothing looks
abbrev pub beyond : Addresses
beyond =
    record { channel = 0; remote = 0; direction = 0; prefix = record { length = 0; octets = [] }; own = record { length = 0; octets = [] } }

abbrev pub no_routes : Routes
no_routes = record { spares = replicate 16 0; leads = replicate 16 0; ways = replicate 16 0 }

-- all is well at first exactly if the lines have their octets
abbrev pub begun : List ℕ → Seen
begun lines = record { sound = eqb (length lines) 51; slots = 0; octets = 0; addresses = replicate 16 nowhere; routes = no_routes }

abbrev pub unsound : Seen → Seen
unsound v = record { sound = false; slots = v.slots; octets = v.octets; addresses = v.addresses; routes = v.routes }

-- the addresses with an index
abbrev pub addresses_at : Seen → ℕ → Addresses
addresses_at v i = get_or v.addresses i beyond

-- one of the n from the i-th on has such addresses
unfoldable pub clashes_seen : Seen → Addresses → ℕ → ℕ → Bool
clashes_seen v a zero i = false
clashes_seen v a (suc n) i = clash a (addresses_at v i) || clashes_seen v a n (i + 1)

abbrev pub routed : Routes → Settings → ℕ → Routes
routed r s j =
    record { spares = set r.spares j s.limits.spare; leads = set r.leads j s.limits.lead; ways = set r.ways j s.addresses.direction }

abbrev pub noted : Seen → Settings → ℕ → Seen
noted v s j =
    record {
      sound = true;
      slots = v.slots + s.limits.slots;
      octets = v.octets + area_of s.limits;
      addresses = set v.addresses j s.addresses;
      routes = routed v.routes s j;
    }

unfoldable pub see_one : Seen → Settings → List ℕ → ℕ → Seen
see_one v s lens j =
    if not v.sound then v
    else if leb 16 j then unsound v
    else if ltb 4096 v.slots then unsound v
    else if ltb 2097152 v.octets then unsound v
    else if not (fit s) then unsound v
    else if clashes_seen v s.addresses j 0 then unsound v
    else noted v s j

abbrev pub seen : List Settings → List ℕ → Seen → Seen
seen s lens v = fold_from see_one lens 0 v s

-- of a table of n records, k settings, m octets and l lengths
unfoldable pub is_settled : Seen → ℕ → ℕ → ℕ → ℕ → Bool
is_settled v n k m l =
    leb 1 k && v.sound && eqb n k && eqb v.slots l && eqb v.octets m && leb k 16 && pairs_from v.routes.spares v.routes.leads v.routes.ways k k 0
