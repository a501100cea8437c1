-- Laws of acks: what each step answers in each case.
-- Assumes nothing.
use Rattle.std.proofs.Common.{◌≡◌, ℕ, ◌+◌, ◌-◌, ◌%◌, arith, ◌<◌, ◌≤◌, Bool, true, false, eqb, ltb, List, get_or, sym, refl, ap, ◌∙◌, ap₂, ltb-true, le-ltb, lt-ltb, eq-eqb, ne_eqb}
use mathlib.Core.Bool.{false≢true}
use Rattle.std.specs.Prelude.{if◌then◌else◌}
use Rattle.slots.specs.Ring.{round_of, run_of}
use Rattle.store.specs.Store.{ends_in, last_end_in}
use Rattle.channel.specs.declared.record.Window.{Window}
use Rattle.channel.specs.declared.record.Channel.{Channel}
use Rattle.channel.specs.declared.step.Stepped.{Stepped}
use Rattle.channel.specs.declared.answer.Answer.TheVariants.{Done}
use Rattle.channel.specs.declared.answer.Refusal.TheVariants as refusal
use Rattle.channel.specs.Record.{opened, with_window, with_marks}
use Rattle.channel.specs.Steps.{refusing}
use Rattle.sender.specs.Directives.{place_at}
use Rattle.sender_acks.specs.Acks.{away_of, is_awaited, recorded, run_at, confirmed_at, whole_at, moved_window, freed_marks, advanced, data_ack_step}

-- ---- acks

module _ (c : Channel) where
  -- the move, from what the calls gave
  pub advanced_is : (n done place : ℕ) (w : Window) (marks : List ℕ)
      → n ≡ run_at c
      → done ≡ last_end_in c.marks c.limits.slots n c.window.place
      → place ≡ round_of c.limits.slots (c.window.place + n)
      → w ≡ moved_window c.window place n done
      → marks ≡ freed_marks c done
      → with_marks (with_window c w) marks ≡ advanced c
  unfolding advanced
  advanced_is n done place w marks en ed ep ew em =
      let whole : done ≡ whole_at c = ed ∙ ap (λ (k : ℕ). last_end_in c.marks c.limits.slots k c.window.place) en in
      let at : place ≡ place_at c (run_at c) = ep ∙ ap (place_at c) en in
      ap₂ (λ (x : Window) (m : List ℕ). with_marks (with_window c x) m)
      (ew ∙ ap (λ (p : ℕ). moved_window c.window p n done) at ∙ ap₂ (λ (k d : ℕ). moved_window c.window (place_at c (run_at c)) k d) en whole)
      (em ∙ ap (freed_marks c) whole)

module _ (c : Channel) (number : ℕ) where
  pub data_ack_state : (c.phase.state ≡ opened → ⊥) → data_ack_step c number ≡ refusing c refusal.State
  unfolding data_ack_step
  data_ack_state h = simp (ne_eqb _ _ h)

  pub data_ack_ignored : c.phase.state ≡ opened → is_awaited c (away_of c number) ≡ false → data_ack_step c number ≡ refusing c refusal.Ignored
  unfolding data_ack_step
  data_ack_ignored h k = simp (eq-eqb _ _ h, k)

  pub data_ack_done : c.phase.state ≡ opened → is_awaited c (away_of c number) ≡ true
      → data_ack_step c number
      ≡ record { channel = advanced (recorded c (away_of c number)); answer = Done 0 (confirmed_at (recorded c (away_of c number))) }
  unfolding data_ack_step
  data_ack_done h k = simp (eq-eqb _ _ h, k)

  -- from what the calls gave
  pub data_ack_is : (d : ℕ) (k : Channel) (n u : ℕ) (r : Channel)
      → c.phase.state ≡ opened
      → is_awaited c d ≡ true
      → d ≡ away_of c number
      → k ≡ recorded c d
      → n ≡ run_of k.acked c.limits.slots c.window.flight c.window.place
      → u ≡ ends_in k.marks c.limits.slots n c.window.place
      → r ≡ advanced k
      → ◌≡◌ {A = Stepped} (record { channel = r; answer = Done 0 u }) (data_ack_step c number)
  data_ack_is d k n u r h a ed ek en eu er =
      let away = away_of c number in
      let noted : k ≡ recorded c away = ek ∙ ap (recorded c) ed in
      let run : n ≡ run_at (recorded c away) =
      en ∙ ap (λ (x : Channel). run_of x.acked c.limits.slots c.window.flight c.window.place) noted in
      let units : u ≡ confirmed_at (recorded c away) =
      eu ∙ ap₂ (λ (x : Channel) (m : ℕ). ends_in x.marks c.limits.slots m c.window.place) noted run in
      ap₂ (λ (x : Channel) (y : ℕ). record { channel = x; answer = Done 0 y }) (er ∙ ap advanced noted) units
      ∙ sym (data_ack_done h (ap (is_awaited c) (sym ed) ∙ a))

-- how far a number lies past the start, as the machine takes it
pub away_is : (number start : ℕ) → start ≤ 256 → (number + (256 - start)) % 256 ≡ (number + 256 - start) % 256
away_is number start h = ap (λ (k : ℕ). k % 256) (omega (arith, h))

module _ (c : Channel) (d : ℕ) where
  pub awaited_sent : is_awaited c d ≡ true → d < c.window.flight
  unfolding is_awaited
  awaited_sent e = go (ltb d c.window.flight) refl (eqb (get_or c.acked (place_at c d) 0) 0) e
    where
      go : (t : Bool) → ltb d c.window.flight ≡ t → (b : Bool) → (if t then b else false) ≡ true → d < c.window.flight
      go true p b q = ltb-true _ _ p
      go false p b q = absurd (false≢true q)

  pub not_sent : c.window.flight ≤ d → is_awaited c d ≡ false
  unfolding is_awaited
  not_sent h = simp (le-ltb _ _ h)

  pub sent_awaited : d < c.window.flight → is_awaited c d ≡ eqb (get_or c.acked (place_at c d) 0) 0
  unfolding is_awaited
  sent_awaited h = simp (lt-ltb _ _ h)
