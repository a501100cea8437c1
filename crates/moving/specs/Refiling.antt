-- A unit that lies in one part of what is lent, and is filed in another.
use Rattle.std.specs.Prelude.{◌≡◌, ◌⊎◌, List, ℕ, ◌+◌, ◌≤◌, ◌<◌, length}
use Rattle.slots.specs.Slots.{Sized}
use Rattle.channel.specs.Places.{slot_in}
use Rattle.channel.specs.Pairs.{again}
use Rattle.store.specs.Store.{EachFits, octets_in}
use Rattle.table.specs.Lent.{area_of, part_of}
use Rattle.moving.specs.declared.refiling.Lot.{Lot}
use Rattle.moving.specs.declared.refiling.Unit as held

-- the octets and the lengths of a part
abbrev pub own_of : Lot → List ℕ → List ℕ
own_of lot mem = part_of lot.octet (area_of lot.limits) mem

abbrev pub lens_of : Lot → List ℕ → List ℕ
lens_of lot lens = part_of lot.slot lot.limits.slots lens

-- it lies within what is lent
pub record Lies (lot : Lot) (mem lens : List ℕ) : Type 0 where
  pub sized : Sized lot.limits.slots lot.limits.payload (own_of lot mem) (lens_of lot lens)
  pub slots : lot.slot + lot.limits.slots ≤ length lens
  pub octets : lot.octet + area_of lot.limits ≤ length mem

-- one of two parts lies behind the other
pub record Apart (a b : Lot) : Type 0 where
  pub slots : (a.slot + a.limits.slots ≤ b.slot) ⊎ (b.slot + b.limits.slots ≤ a.slot)
  pub octets : (a.octet + area_of a.limits ≤ b.octet) ⊎ (b.octet + area_of b.limits ≤ a.octet)

-- the octets of a unit
abbrev pub unit_in : held.Unit → List ℕ → List ℕ → List ℕ
unit_in u mem lens =
    octets_in (slot_in u.lot.limits) u.lot.limits.payload (own_of u.lot mem) (lens_of u.lot lens) u.lot.limits.slots u.count u.from

-- they lie in its part, and are filed anew as so many
pub record Holds (u : held.Unit) (mem lens : List ℕ) : Type 0 where
  pub from : u.from < u.lot.limits.slots
  pub count : u.count ≤ u.lot.limits.slots
  pub each : EachFits (slot_in u.lot.limits) u.lot.limits.payload (lens_of u.lot lens) u.lot.limits.slots u.count u.from
  pub size : u.size ≡ length (again (unit_in u mem lens))
