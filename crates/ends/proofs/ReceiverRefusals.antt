-- All answers but 0, 9 and 15 change no record and no octet (document 01, Answer numbers).
-- Assumes nothing.
use mathlib.Core.Path.{◌≡◌, refl, ap}
use mathlib.Core.Logic.{◌⊎◌, inl, inr}
use mathlib.Core.Bool.{Bool, true, false}
use mathlib.Core.List.{List}
use Prim.Native.Nat.{ℕ}
use borrow.Author.Tests.{eqb-true, eqb-false, ltb-true, ltb-false}
use lib.Dec.{eqb, ltb}
use lib.ListN.{length}
use Rattle.channel.specs.declared.record.Channel.{Channel}
use Rattle.channel.specs.declared.step.Stepped.{Stepped}
use Rattle.channel.specs.Answers.{number_of}
use Rattle.channel.specs.Pulse.{heartbeat_step, heartbeat_ack_step}
use Rattle.channel.specs.Flow.{flow_step, flow_ack_step}
use Rattle.receiver_data.specs.Sorting.{place_at}
use Rattle.receiver.specs.Receiving.{open_step, close_step, control_step}
use Rattle.receiver_data.specs.Data.{away_of, data_step, data_mem, data_lens}
use Rattle.receiver_data.specs.Taking.{complete_in, size_at, take_step, take_out}
use Rattle.receiver_data.proofs.TakeLaws.{take_nothing, take_small, take_done, out_nothing, out_small}
use Rattle.ends.proofs.PulseCases.{heartbeat_cases, heartbeat_ack_cases, flow_cases, flow_ack_cases}
use Rattle.ends.proofs.ReceiverCases.{open_cases, control_cases, data_cases, accept_cases}

-- the answer says that something may have changed
abbrev pub Changing : Stepped → Type 0
Changing s = (number_of s.answer ≡ 0) ⊎ (number_of s.answer ≡ 9) ⊎ (number_of s.answer ≡ 15)

-- Data that arrives
pub refusals_change_nothing : (c : Channel) (number flags : ℕ) (p mem lens : List ℕ)
    → (Changing (data_step c number flags) → ⊥)
    → ((data_step c number flags).channel ≡ c) × (data_mem c number p mem ≡ mem) × (data_lens c number p lens ≡ lens)
refusals_change_nothing c number flags p mem lens =
    data_cases c number flags p mem lens (λ (s : Stepped) (m l : List ℕ). (Changing s → ⊥) → (s.channel ≡ c) × (m ≡ mem) × (l ≡ lens))
    (λ n. (refl, refl, refl))
    (λ n. (refl, refl, refl))
    (λ n. absurd (n (inr (inr refl))))
    (λ n. absurd (n (inr (inl refl))))
    (λ o room n. absurd (n (accept_cases c (place_at c.limits c.window (away_of c number)) flags Changing (inr (inl refl)) (inl refl))))

-- an Open or a Close that arrives
pub control_refusals_change_nothing : (c : Channel) (opens : Bool) (number : ℕ)
    → (Changing (control_step c opens number) → ⊥)
    → (control_step c opens number).channel ≡ c
control_refusals_change_nothing c opens number =
    control_cases c (λ (s : Stepped). (Changing s → ⊥) → s.channel ≡ c)
    (λ n. refl)
    (λ n. absurd (n (inr (inr refl))))
    opens
    number
    (λ n. absurd (n (inl refl)))
    (λ n. absurd (n (inl refl)))
    (λ n. absurd (n (inr (inl refl))))
    (λ n. absurd (n (inr (inl refl))))

-- a Heartbeat that arrives, and the Ack of one
pub heartbeat_refusals_change_nothing : (c : Channel) → (Changing (heartbeat_step c) → ⊥) → (heartbeat_step c).channel ≡ c
heartbeat_refusals_change_nothing c = heartbeat_cases c (λ (s : Stepped). (Changing s → ⊥) → s.channel ≡ c) (λ n. refl) (λ e n. refl)

pub heartbeat_ack_refusals_change_nothing : (c : Channel) (number : ℕ)
    → (Changing (heartbeat_ack_step c number) → ⊥)
    → (heartbeat_ack_step c number).channel ≡ c
heartbeat_ack_refusals_change_nothing c number =
    heartbeat_ack_cases c (λ (s : Stepped). (Changing s → ⊥) → s.channel ≡ c) (λ n. refl) number (λ n. refl) (λ e n. absurd (n (inl refl)))

-- the Ack of Flow Control
pub flow_ack_refusals_change_nothing : (c : Channel) (number : ℕ) → (Changing (flow_ack_step c number) → ⊥) → (flow_ack_step c number).channel ≡ c
flow_ack_refusals_change_nothing c number =
    flow_ack_cases c (λ (s : Stepped). (Changing s → ⊥) → s.channel ≡ c) (λ n. refl) number (λ n. refl) (λ e n. absurd (n (inl refl)))

-- Flow Control
pub flow_refusals_change_nothing : (c : Channel) (number : ℕ) → (Changing (flow_step c number) → ⊥) → (flow_step c number).channel ≡ c
flow_refusals_change_nothing c number =
    flow_cases c (λ (s : Stepped). (Changing s → ⊥) → s.channel ≡ c) (λ n. refl) number (λ e n. absurd (n (inl refl)))

-- directives
pub opening_refusals_change_nothing : (c : Channel) → (Changing (open_step c) → ⊥) → (open_step c).channel ≡ c
opening_refusals_change_nothing c =
    open_cases c (λ (s : Stepped). (Changing s → ⊥) → s.channel ≡ c) (λ n. refl) (λ n. refl) (λ n. absurd (n (inl refl)))

pub closing_changes_nothing : (c : Channel) → (close_step c).channel ≡ c
closing_changes_nothing c = refl

-- taking
pub taking_refusals_change_nothing : (c : Channel) (lens mem out : List ℕ)
    → (Changing (take_step c lens (length out)) → ⊥)
    → ((take_step c lens (length out)).channel ≡ c) × (take_out c lens mem out ≡ out)
taking_refusals_change_nothing c lens mem out n = some (eqb (complete_in c.window) 0) refl (ltb (length out) (size_at c lens)) refl
  where
    some : (t : Bool) → eqb (complete_in c.window) 0 ≡ t → (u : Bool) → ltb (length out) (size_at c lens) ≡ u
        → ((take_step c lens (length out)).channel ≡ c) × (take_out c lens mem out ≡ out)
    some true e u f =
        let z = eqb-true _ _ e in
        (ap (λ (s : Stepped). s.channel) (take_nothing c lens (length out) z), out_nothing c lens mem out z)
    some false e true f =
        let z = eqb-false _ _ e in
        let l = ltb-true _ _ f in
        (ap (λ (s : Stepped). s.channel) (take_small c lens (length out) z l), out_small c lens mem out z l)
    some false e false f =
        absurd (n (inl (ap (λ (s : Stepped). number_of s.answer) (take_done c lens (length out) (eqb-false _ _ e) (ltb-false _ _ f)))))
