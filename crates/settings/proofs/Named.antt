-- Pairs, said of the settings themselves: what is looked at of each stands in a list of its own where `Pairs` speaks of it.
-- Assumes nothing.
use Rattle.std.proofs.Common.{◌≡◌, ◌∙◌, refl, sym, ap, ℕ, zero, suc, ◌+◌, ◌<◌, Bool, ◌&&◌, ◌||◌, eqb, List, [], ◌∷◌, length, get_or, arith}
use Rattle.std.proofs.Math.ListN.{get_or-map}
use Rattle.std.specs.List.{list_any, list_all, range_with_len}
use Rattle.channel.specs.declared.record.Settings.{Settings}
use Rattle.channel.specs.Pairs.{is_named, pair_fits, pairs_from, pairs_fit, spares_of, leads_of, ways_of}
use Rattle.channel.proofs.PairLaws.{pairs_same}

-- what `get_or` gives past the end of the settings, where nothing looks
abbrev pub nothing : Settings
nothing =
    record {
      addresses = record { channel = 0; remote = 0; direction = 0; prefix = record { length = 0; octets = [] }; own = record { length = 0; octets = [] } };
      limits = record { window = 0; slots = 0; payload = 0; segments = 0; timeout = 0; closing = 0; retries = 0; interval = 0; flow = 0; spare = 0; lead = 0 };
    }

pub spare_of : (s : List Settings) (i : ℕ) → get_or (spares_of s) i 0 ≡ (get_or s i nothing).limits.spare
spare_of s i = get_or-map (λ (x : Settings). x.limits.spare) s i nothing

pub lead_of : (s : List Settings) (i : ℕ) → get_or (leads_of s) i 0 ≡ (get_or s i nothing).limits.lead
lead_of s i = get_or-map (λ (x : Settings). x.limits.lead) s i nothing

pub way_of : (s : List Settings) (i : ℕ) → get_or (ways_of s) i 0 ≡ (get_or s i nothing).addresses.direction
way_of s i = get_or-map (λ (x : Settings). x.addresses.direction) s i nothing

-- who names the i-th, one place on in a list with one more before it
one_on : (x : ℕ) (l : List ℕ) (i m j : ℕ) → is_named (x ∷ l) i m (suc j) ≡ is_named l i m j
unfolding is_named
one_on x l i zero j = refl
one_on x l i (suc m) j = let e : suc j + 1 ≡ suc (j + 1) = omega arith in rw e (ap (λ (b : Bool). eqb (get_or l j 0) (i + 1) || b) (one_on x l i m (j + 1)))

pub named_any : (s : List Settings) (i : ℕ) → is_named (spares_of s) i (length s) 0 ≡ list_any (λ (x : Settings). eqb x.limits.spare (i + 1)) s
unfolding is_named
named_any [] i = refl
named_any (x ∷ s) i = ap (λ (b : Bool). eqb x.limits.spare (i + 1) || b) (one_on x.limits.spare (spares_of s) i (length s) 0 ∙ named_any s i)

-- those of a range that fit, one after another
pub pairs_all : (spares leads ways : List ℕ) (n m i : ℕ) → list_all (λ (k : ℕ). pair_fits spares leads ways n k) (range_with_len i m) ≡ pairs_from spares leads ways n m i
unfolding pairs_from
pairs_all spares leads ways n zero i = refl
pairs_all spares leads ways n (suc m) i = ap (λ (b : Bool). pair_fits spares leads ways n i && b) (pairs_all spares leads ways n m (i + 1))

-- whoever holds by index the spares, the leads and the directions of settings sees their pairs
pub pairs_held : (spares leads ways : List ℕ) (s : List Settings)
    → ((i : ℕ) → i < length s → get_or spares i 0 ≡ (get_or s i nothing).limits.spare)
    → ((i : ℕ) → i < length s → get_or leads i 0 ≡ (get_or s i nothing).limits.lead)
    → ((i : ℕ) → i < length s → get_or ways i 0 ≡ (get_or s i nothing).addresses.direction)
    → pairs_from spares leads ways (length s) (length s) 0 ≡ pairs_fit s
pairs_held spares leads ways s a b d =
    pairs_same spares leads ways (spares_of s) (leads_of s) (ways_of s) (length s) (λ i h. a i h ∙ sym (spare_of s i)) (λ i h. b i h ∙ sym (lead_of s i))
    (λ i h. d i h ∙ sym (way_of s i)) (length s) 0 (omega arith)
