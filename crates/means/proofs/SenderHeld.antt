-- The units that a sending record holds are those that the protocol's sender holds.
-- Assumes nothing.
use mathlib.Core.Path.{◌≡◌, refl, sym, ap, ap₂, ◌∙◌}
use mathlib.Core.Bool.{Bool, true, false}
use mathlib.Core.List.{List, [], ◌∷◌, ◌++◌}
use mathlib.Core.Logic.{◌⊎◌, inl, inr, ⊎_elim}
use mathlib.Core.Option.{some}
use Prim.Native.Nat.{ℕ, zero, suc, ◌≤◌}
use native.Mathlib.Omega.{arith}
use lib.ListN.{length, drop, get_or, length-drop}
use lib.Seq.{get_or-drop}
use Rattle.laws.proofs.Choice.{chosen, passed_by}
use Rattle.slots.proofs.RingLaws.{back_lt}
use Rattle.channel.specs.declared.record.Channel.{Channel}
use Rattle.channel.specs.Record.{sends, held_in}
use Rattle.channel.specs.Standing.{oldest_of}
use Rattle.channel.specs.Asked.{Asked}
use Rattle.channel.proofs.StandingLaws.{counted_is}
use Rattle.protocol.specs.Units.{DataUnit, Segment, blank, units}
use Rattle.protocol.specs.Ends.{Phase, fresh, enabled, opened, closing, shut, rank}
use Rattle.protocol.specs.Sending as sending
use Rattle.protocol.specs.Sending.{Sender}
use Rattle.means.specs.Held.{units_in, units_held}
use Rattle.means.proofs.Runs.{Lies, run_units}
use Rattle.means.proofs.Sends.{Holds, Sends}

-- ---- what is held, as a list of segments from the oldest on

module _ (c : Channel) (mem lens : List ℕ) (line : List Segment) (oldest : ℕ) (x : Holds c mem lens line oldest) where
  pub held_length : length (drop oldest line) ≡ held_in c.window
  held_length = omega (arith, length-drop oldest line, x.count)

  pub held_lies : Lies c mem lens (oldest_of c.limits.slots c.window) (drop oldest line)
  held_lies j l = x.each j (omega (arith, held_length)) ∙ ap some (sym (get_or-drop oldest line j blank))

-- ---- where the last of some segments ends a unit, there is a complete one

pub record Complete (part : DataUnit) (l : List Segment) : Type 0 where
  pub unit : DataUnit
  pub more : List DataUnit
  pub is : units part l ≡ unit ∷ more

pub complete : (l : List Segment) (part : DataUnit) (k : ℕ) → length l ≡ suc k → (get_or l k blank).last ≡ true → Complete part l
complete [] part k e h = absurd (omega arith)
complete (g ∷ l) part zero e h =
    record {
      unit = part ++ g.octets;
      more = units [] l;
      is = chosen g.last ((part ++ g.octets) ∷ units [] l) (units (part ++ g.octets) l) h;
    }
complete (g ∷ l) part (suc k) e h =
    let go = λ (t : Bool). elim t as (λ t. g.last ≡ t → Complete part (g ∷ l)) [
      | true ↦ λ p.
          record {
            unit = part ++ g.octets;
            more = units [] l;
            is = chosen g.last ((part ++ g.octets) ∷ units [] l) (units (part ++ g.octets) l) p;
          }
      | false ↦ λ p.
          let rest = complete l (part ++ g.octets) k (omega arith) h in
          record {
            unit = rest.unit;
            more = rest.more;
            is = passed_by g.last ((part ++ g.octets) ∷ units [] l) (units (part ++ g.octets) l) p ∙ rest.is;
          }
    ]
    in go g.last refl

-- ---- the theorem

pub phase_cases : (p : Phase) → (p ≡ fresh) ⊎ (1 ≤ rank p)
phase_cases fresh = inl refl
phase_cases enabled = inr (omega arith)
phase_cases opened = inr (omega arith)
phase_cases closing = inr (omega arith)
phase_cases shut = inr (omega arith)

no_units : (c : Channel) (mem lens : List ℕ) (from : ℕ) → units_in c mem lens [] 0 from ≡ []
unfolding units_in
no_units c mem lens from = refl

pub sends_held : (c : Channel) (mem lens : List ℕ) (s : Sender) → Asked c mem lens → c.addresses.direction ≡ sends → Sends c mem lens s
    → units_held c mem lens ≡ sending.held s
sends_held c mem lens s a d r =
    let slots = c.limits.slots in
    let from = oldest_of slots c.window in
    let n = counted_is c.limits c.window a.standing.ring a.standing.flight in
    ⊎_elim
    (λ e.
    let b = r.before e in
    ap (λ (k : ℕ). units_in c mem lens [] k from) b.empty
    ∙ no_units c mem lens from
    ∙ ap₂ (λ (k : ℕ) (l : List Segment). units [] (drop k l)) (sym b.oldest) (sym b.line))
    (λ h.
    let x = r.held h in
    let len = held_length c mem lens s.line s.oldest x in
    ap (λ (k : ℕ). units_in c mem lens [] k from) (sym len)
    ∙ run_units c mem lens (drop s.oldest s.line) [] from
    (back_lt slots c.window.place c.window.behind n.place)
    (omega (arith, len, n.held))
    (held_lies c mem lens s.line s.oldest x))
    (phase_cases s.phase)
