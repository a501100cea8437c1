-- What holds of each answer of a step holds of the step. For Data the answer, the memory and the lengths are taken together.
-- Assumes nothing.
use mathlib.Core.Path.{◌≡◌, refl, sym, subst₃}
use mathlib.Core.Bool.{Bool, true, false, not}
use mathlib.Core.List.{List}
use Prim.Native.Nat.{ℕ, ◌+◌, ◌-◌, ◌*◌, ◌<◌}
use borrow.Author.Tests.{eqb-true, eqb-false, leb-true, leb-false}
use lib.Dec.{eqb, leb, ltb}
use lib.ListN.{length, set}
use Rattle.laws.proofs.Choice.{either, by_test}
use Rattle.slots.specs.Slots.{laid}
use Rattle.channel.specs.Places.{slot_of}
use Rattle.channel.specs.declared.record.Pulse.{Pulse}
use Rattle.channel.specs.declared.record.Channel.{Channel}
use Rattle.channel.specs.declared.step.Stepped.{Stepped}
use Rattle.channel.specs.declared.step.Ticked.{Ticked}
use Rattle.channel.specs.declared.answer.Refusal.TheVariants as refusal
use Rattle.channel.specs.Record.{closed, enabled, opened, closing, late_open, control_number, data_number, broken_flags, retries_out, unanswered, no_lone, held_in, with_state, with_pulse, with_window, with_timers}
use Rattle.channel.specs.Steps.{refusing, doing, repeating, failing, enabled_of}
use Rattle.channel.specs.Lone.{fallen}
use Rattle.channel.specs.Pulse.{started_pulse, beaten}
use Rattle.channel.specs.Flow.{lowered_flow}
use Rattle.receiver_data.specs.declared.sorting.Sort.{Sort}
use Rattle.receiver_data.specs.declared.sorting.Sort.TheVariants.{New, Held, Behind, Other}
use Rattle.receiver_data.specs.Sorting.{place_at}
use Rattle.receiver_data.specs.Moving.{moved_of}
use Rattle.receiver.specs.Receiving.{ack_length, leaving, shut_for, with_closing, open_step, open_arrives, close_arrives, control_step, tick_step}
use Rattle.receiver_data.specs.Data.{marking, accept_step, data_by, away_of, sort_of, data_step, mem_by, lens_by, data_mem, data_lens}
use Rattle.receiver_data.specs.Taking.{complete_in, unit_at, size_at, taken, take_step}
use Rattle.receiver_data.proofs.DataLaws.{new_full, full_mem, full_lens, new_accepted, new_mem, new_lens, data_state, state_mem, state_lens, data_by_lem, mem_by_lem, lens_by_lem}

-- ---- the Open directive, a Control packet, taking, and a tick

pub open_cases : (c : Channel) (P : Stepped → Type 0)
    → P (refusing c refusal.State) → P (refusing c refusal.Untaken) → P (doing (enabled_of c no_lone) 0)
    → P (open_step c)
unfolding open_step
open_cases c P state untaken done =
    either P (not (eqb c.phase.state closed)) _ _ state (either P (not (eqb (held_in c.window) 0)) _ _ untaken done)

module _ (c : Channel) (P : Stepped → Type 0) (refused : P (refusing c refusal.State)) (repeated : P (repeating c (ack_length c))) where
  open_arrives_cases : P (doing (with_pulse (with_state c opened) (started_pulse c.limits)) (ack_length c))
      → P (failing (shut_for c late_open) late_open)
      → P (open_arrives c)
  unfolding open_arrives
  open_arrives_cases opens late =
      either P (eqb c.phase.state enabled) _ _ opens
      (either P (not (eqb c.phase.state opened)) _ _ refused (either P (eqb c.phase.accepted 0) _ _ repeated late))

  close_arrives_cases : P (doing (leaving c closing c.limits.closing) (ack_length c)) → P (close_arrives c)
  unfolding close_arrives
  close_arrives_cases closes = either P (eqb c.phase.state opened) _ _ closes (either P (eqb c.phase.state closing) _ _ repeated refused)

  pub control_cases : (opens : Bool) (number : ℕ)
      → P (doing (with_pulse (with_state c opened) (started_pulse c.limits)) (ack_length c))
      → P (doing (leaving c closing c.limits.closing) (ack_length c))
      → P (failing (shut_for c late_open) late_open)
      → P (failing (shut_for c control_number) control_number)
      → P (control_step c opens number)
  unfolding control_step
  control_cases opens number opening closes late other =
      either P (eqb c.phase.state closed) _ _ refused
      (either P (not (eqb number 0)) _ _ other (either P opens _ _ (open_arrives_cases opening late) (close_arrives_cases closes)))

pub take_cases : (c : Channel) (lens : List ℕ) (n : ℕ) (P : Stepped → Type 0)
    → P (refusing c refusal.Nothing)
    → P (refusing c (refusal.Small (size_at c lens)))
    → ((complete_in c.window ≡ 0 → ⊥) → P (doing (taken c (unit_at c)) (size_at c lens)))
    → P (take_step c lens n)
unfolding take_step
take_cases c lens n P nothing small done =
    by_test P (eqb (complete_in c.window) 0) _ _ (λ e. nothing)
    (λ e. either P (ltb n (size_at c lens)) _ _ small (done (eqb-false _ _ e)))

-- the pulse after a tick that closes nothing: Flow Control's timer, then the Heartbeat and the interval
abbrev pub ticked_pulse : Channel → Pulse
ticked_pulse c = (beaten c.limits (lowered_flow c.pulse (fallen c.pulse.flow.packet).lone)).pulse

pub tick_cases : (c : Channel) (P : Channel → Type 0)
    → P c
    → P (with_timers c (with_closing c.timers (c.timers.closing - 1)))
    → (c.phase.state ≡ closing → P (with_state (with_timers c (with_closing c.timers 0)) closed))
    → (c.phase.state ≡ opened → P (shut_for c retries_out))
    → (c.phase.state ≡ opened → P (shut_for c unanswered))
    → (c.phase.state ≡ opened → P (with_pulse c (ticked_pulse c)))
    → P (tick_step c).channel
unfolding tick_step leaving
tick_cases c P idle falls ends spent unheard paces =
    by_test Ticks (eqb c.phase.state opened) _ _
    (λ e.
    let o = eqb-true _ _ e in
    let f = fallen c.pulse.flow.packet in
    either Ticks f.spent _ _ (spent o) (either Ticks (beaten c.limits (lowered_flow c.pulse f.lone)).spent _ _ (unheard o) (paces o)))
    (λ e.
    by_test Ticks (eqb c.phase.state closing) _ _ (λ q. either P (leb 2 c.timers.closing) _ _ falls (ends (eqb-true _ _ q))) (λ q. idle))
  where
    Ticks : Ticked → Type 0
    Ticks s = P s.channel

-- ---- Data

module _ (c : Channel) (number flags : ℕ) (p mem lens : List ℕ) (P : Stepped → List ℕ → List ℕ → Type 0)
    (refused : P (refusing c refusal.State) mem lens) (full : P (refusing c refusal.Full) mem lens)
    (repeated : P (repeating c (ack_length c)) mem lens) (failed : P (failing (shut_for c data_number) data_number) mem lens)
    (accepted : c.phase.state ≡ opened
    → c.window.behind + away_of c number < c.limits.slots
    → P (accept_step c (place_at c.limits c.window (away_of c number)) flags)
    (laid mem (slot_of c (place_at c.limits c.window (away_of c number)) * c.limits.payload) p)
    (set lens (slot_of c (place_at c.limits c.window (away_of c number))) (length p))) where
  room_cases : c.phase.state ≡ opened → (t : Bool) → leb c.limits.slots (c.window.behind + away_of c number) ≡ t
      → P (data_by New c (away_of c number) flags) (mem_by New c (away_of c number) p mem) (lens_by New c (away_of c number) p lens)
  room_cases o true e =
      let h = leb-true _ _ e in
      subst₃ P (sym (new_full c (away_of c number) flags h)) (sym (full_mem c (away_of c number) p mem h)) (sym (full_lens c (away_of c number) p lens h)) full
  room_cases o false e =
      let h = leb-false _ _ e in
      subst₃ P (sym (new_accepted c (away_of c number) flags h)) (sym (new_mem c (away_of c number) p mem h)) (sym (new_lens c (away_of c number) p lens h))
      (accepted o h)

  sort_cases : c.phase.state ≡ opened → (s : Sort) → P (data_by s c (away_of c number) flags) (mem_by s c (away_of c number) p mem) (lens_by s c (away_of c number) p lens)
  sort_cases o New = room_cases o (leb c.limits.slots (c.window.behind + away_of c number)) refl
  sort_cases o Held = repeated
  sort_cases o Behind = repeated
  sort_cases o Other = failed

  state_cases : (t : Bool) → eqb c.phase.state opened ≡ t → P (data_step c number flags) (data_mem c number p mem) (data_lens c number p lens)
  state_cases true e =
      let h = eqb-true _ _ e in
      let s = sort_of c number in
      subst₃ P (sym (data_by_lem c number s h refl flags)) (sym (mem_by_lem c number s h refl p mem)) (sym (lens_by_lem c number s h refl p lens)) (sort_cases h s)
  state_cases false e =
      let h = eqb-false _ _ e in
      subst₃ P (sym (data_state c number h flags)) (sym (state_mem c number h p mem)) (sym (state_lens c number h p lens)) refused

  pub data_cases : P (data_step c number flags) (data_mem c number p mem) (data_lens c number p lens)
  data_cases = state_cases (eqb c.phase.state opened) refl

-- a segment accepted: at a break, or done
pub accept_cases : (c : Channel) (place flags : ℕ) (P : Stepped → Type 0)
    → P (failing (shut_for (with_window (marking c place flags) (moved_of c.limits (marking c place flags).marks c.window).window) broken_flags) broken_flags)
    → P (doing (with_window (marking c place flags) (moved_of c.limits (marking c place flags).marks c.window).window) (ack_length c))
    → P (accept_step c place flags)
unfolding accept_step
accept_cases c place flags P broken done = either P (moved_of c.limits (marking c place flags).marks c.window).broken _ _ broken done
