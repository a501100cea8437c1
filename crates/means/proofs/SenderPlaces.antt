-- The segment at a place: by its mark and its octets; and those from the window's start on.
-- Assumes nothing.
use mathlib.Core.Path.{◌≡◌, sym, ap, ◌∙◌}
use mathlib.Core.Bool.{Bool}
use mathlib.Core.List.{List}
use mathlib.Core.Option
use mathlib.Core.Option.{Option, some}
use Prim.Native.Nat.{ℕ, ◌+◌, ◌-◌, ◌<◌}
use native.Mathlib.Nat.{pos_of_ne-zero}
use native.Mathlib.Omega.{arith}
use lib.ListN.{get_or}
use Rattle.channel.specs.declared.record.Channel.{Channel}
use Rattle.channel.specs.Asked.{Asked}
use Rattle.channel.proofs.StandingLaws.{counted_is}
use Rattle.sender.specs.Directives.{place_at}
use Rattle.sender.proofs.AskedLaws.{from_oldest, mark_set}
use Rattle.protocol.specs.Units.{Segment, blank}
use Rattle.means.specs.Held.{octets_at}
use Rattle.means.specs.Meaning.{lying, segment_by, carried}
use Rattle.means.proofs.Lying.{lying_some}
use Rattle.means.proofs.Sends.{Holds, Windowed}

pub some_is : (g h : Segment) → ◌≡◌ {A = Option Segment} (some g) (some h) → g ≡ h
some_is g h e = ap (λ (o : Option Segment). Option.get_or o blank) e

module _ (c : Channel) (mem lens : List ℕ) (line : List Segment) (oldest start next : ℕ) (acked : ℕ → Bool) (a : Asked c mem lens)
    (x : Holds c mem lens line oldest) (w : Windowed c oldest start next acked) (k : ℕ) (l : k < c.window.ahead) where
  -- the k-th from the start on
  pub from_start : lying c mem lens (place_at c k) ≡ some (get_or line (start + k) blank)
  from_start =
      let h = a.standing in
      let n = counted_is c.limits c.window h.ring h.flight in
      let e : oldest + (c.window.behind + k) ≡ start + k = omega (arith, w.behind) in
      ap (lying c mem lens) (sym (from_oldest c.limits.slots c.window k n.place (omega (arith, n.held))))
      ∙ x.each (c.window.behind + k) (omega arith)
      ∙ ap (λ (i : ℕ). some (get_or line i blank)) e

  -- as a Data packet carries it: the flags are the mark less 1
  pub carried_is : carried (get_or c.marks (place_at c k) 0 - 1) (octets_at c mem lens (place_at c k)) ≡ get_or line (start + k) blank
  carried_is =
      let set = mark_set c lens a.standing k l in
      let mark = get_or c.marks (place_at c k) 0 in
      let octets = octets_at c mem lens (place_at c k) in
      let e : mark - 1 + 1 ≡ mark = omega (arith, pos_of_ne-zero set) in
      ap (λ (m : ℕ). segment_by m octets) e
      ∙ some_is (segment_by mark octets) (get_or line (start + k) blank) (sym (lying_some c mem lens (place_at c k) set) ∙ from_start)
