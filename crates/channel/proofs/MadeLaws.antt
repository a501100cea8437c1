-- A channel that fit settings make stands, and so does one whose opening begins.
-- Assumes nothing.
use Rattle.std.proofs.Common.{◌≡◌, ℕ, ◌-◌, ◌<◌, ◌≤◌, Bool, true, eqb, List, length, get_or, refl, ap, ◌∙◌, zero-le, not-suc-le-zero, arith, lt-ltb, le-leb}
use lib.ListN.{get_or-replicate}
use Rattle.laws.proofs.Choice.{both, either}
use Rattle.channel.specs.declared.record.Settings.{Settings}
use Rattle.channel.specs.declared.record.Lone.{Lone}
use Rattle.channel.specs.declared.record.Window.{Window}
use Rattle.channel.specs.declared.record.Channel.{Channel}
use Rattle.channel.specs.Record.{sends, enabled, made_of, fresh_phase, fresh_window, no_marks}
use Rattle.channel.specs.Settings.{fit, fit_addresses, fit_limits}
use Rattle.channel.specs.Places.{slot_of}
use Rattle.channel.specs.Standing.{named, in_ring, in_flight, sided, asking, slot_fit, Standing}
use Rattle.channel.specs.Steps.{enabled_of}
use Rattle.channel.proofs.SettingsLaws.{fit_is}
use Rattle.channel.proofs.StandingLaws.{named_is, asking_closed, rests}

-- a free slot fits
pub free_fits : (sending : Bool) (most len : ℕ) → slot_fit sending most 0 len ≡ true
unfolding slot_fit
free_fits sending most len = refl

-- a channel with no marks and a fresh window
module _ (c : Channel) (lens : List ℕ) (w : c.window ≡ fresh_window) (m : c.marks ≡ no_marks) (f : fit_limits c.limits ≡ true) (e : length lens ≡ c.limits.slots) where
  fresh_ring : in_ring c.limits c.window ≡ true
  unfolding in_ring
  fresh_ring =
      let t = fit_is c.limits f in
      rw w (simp (lt-ltb 0 c.limits.slots (omega arith), le-leb 0 c.limits.slots zero-le, le-leb 0 (c.limits.slots - 0) zero-le))

  fresh_flight : in_flight c.limits c.window ≡ true
  unfolding in_flight
  fresh_flight =
      let t = fit_is c.limits f in
      rw w (simp (le-leb 0 c.limits.window (omega arith), lt-ltb 0 c.limits.segments (omega arith)))

  free : (i : ℕ) → i < c.limits.slots → get_or c.marks i 0 ≡ 0
  free i h =
      let t = fit_is c.limits f in
      ap (λ (l : List ℕ). get_or l i 0) m ∙ get_or-replicate 128 i 0 0 (omega arith)

  fresh_stands : named c ≡ true → sided c.addresses.direction c.phase.state c.window ≡ true → asking c.addresses.direction c.phase ≡ true
      → Standing c lens
  fresh_stands n s a =
      record {
        fit = f;
        count = e;
        named = n;
        ring = fresh_ring;
        flight = fresh_flight;
        sided = s;
        rested = rests c.addresses.direction c.phase c.window (ap (λ (v : Window). v.start) w) (ap (λ (v : Window). v.way) w) a;
        held = λ i h. absurd (not-suc-le-zero (rw w at h));
        slots = λ i h.
            ap (λ (k : ℕ). slot_fit (eqb c.addresses.direction sends) c.limits.payload k (get_or lens (slot_of c i) 0)) (free i h)
            ∙ free_fits (eqb c.addresses.direction sends) c.limits.payload (get_or lens (slot_of c i) 0);
      }

-- a fresh window is as it must be at either end, in every state
fresh_sided : (direction state : ℕ) → sided direction state fresh_window ≡ true
unfolding sided
fresh_sided direction state = either IsTrue (eqb direction sends) _ true (either IsTrue (eqb state 2) true true refl refl) refl
  where
    IsTrue : Bool → Type 0
    IsTrue b = b ≡ true

-- settings that are fit make a channel that stands
pub made_stands : (s : Settings) (lens : List ℕ) → fit s ≡ true → length lens ≡ s.limits.slots → Standing (made_of s) lens
unfolding fit named
made_stands s lens f e =
    let p = both (fit_addresses s.addresses) _ f in
    fresh_stands (made_of s) lens refl refl p.1 e (simp p.0) (fresh_sided s.addresses.direction 0)
    (asking_closed s.addresses.direction (made_of s).phase refl)

-- an opening that begins keeps it, at a sender with its Open
pub enabled_stands : (c : Channel) (lens : List ℕ) (control : Lone) → control.state ≤ 3 → asking c.addresses.direction (fresh_phase enabled control) ≡ true
    → Standing c lens → Standing (enabled_of c control) lens
unfolding named
enabled_stands c lens control small a h =
    fresh_stands (enabled_of c control) lens refl refl h.fit h.count (simp ((named_is c h.named).addresses, le-leb _ _ small)) (fresh_sided c.addresses.direction 1) a
