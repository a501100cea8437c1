-- A refusal changes nothing: no record, no octet, no length.
-- Assumes nothing.
use mathlib.Core.Path.{◌≡◌, refl, ap, ◌∙◌}
use mathlib.Core.Bool.{Bool, true, false}
use mathlib.Core.List.{List}
use Prim.Native.Nat.{ℕ}
use lib.Dec.{ltb}
use lib.ListN.{length}
use Rattle.std.specs.Prelude.{Ok, if◌then◌else◌}
use Rattle.laws.proofs.Choice.{either_way}
use Rattle.packet.specs.Writing.{after_write}
use Rattle.channel.specs.declared.record.Node.{Node}
use Rattle.channel.specs.declared.record.Channel.{Channel}
use Rattle.channel.specs.declared.step.Stepped.{Stepped}
use Rattle.channel.specs.declared.answer.Answer.TheVariants.{Done}
use Rattle.channel.specs.declared.answer.Refusal.TheVariants as refusal
use Rattle.channel.specs.Answers.{number_of}
use Rattle.channel.specs.Prefixes.{prefix_of}
use Rattle.channel.specs.Steps.{refusing, doing}
use Rattle.channel.specs.Pulse.{heartbeat_step, heartbeat_ack_step}
use Rattle.sender.specs.Directives.{open_step, close_step}
use Rattle.sender_units.specs.Transfer.{is_accepted, transfer_step, transfer_mem, transfer_lens}
use Rattle.sender_packets.specs.HandingOut.{next_length, next_fields, next_payload, next_out, hand_step, hand_out}
use Rattle.sender_acks.specs.Acks.{control_ack_step, data_ack_step}
use Rattle.sender_units.specs.Reclaiming.{reclaim_step, reclaim_out}
use Rattle.sender_units.proofs.UnitLaws.{transfer_no, transfer_no_mem, transfer_no_lens, transfer_done}
use Rattle.ends.proofs.PulseCases.{heartbeat_cases, heartbeat_ack_cases}
use Rattle.ends.proofs.SenderCases.{open_cases, close_cases, control_ack_cases, data_ack_cases, reclaim_out_cases}

-- the step answers another number than 0. No step here answers 9: only a tick makes a transmit end inactive
abbrev pub Refuses : Stepped → Type 0
Refuses s = number_of s.answer ≡ 0 → ⊥

-- and then its channel is c
abbrev Keeps : Channel → Stepped → Type 0
Keeps c s = Refuses s → s.channel ≡ c

pub open_unchanged : (c : Channel) → Refuses (open_step c) → (open_step c).channel ≡ c
open_unchanged c = open_cases c (Keeps c) (λ n. refl) (λ n. refl) (λ n. absurd (n refl))

pub close_unchanged : (c : Channel) → Refuses (close_step c) → (close_step c).channel ≡ c
close_unchanged c = close_cases c (Keeps c) (λ n. refl) (λ e n. absurd (n refl)) (λ n. absurd (n refl))

pub transfer_unchanged : (c : Channel) (u mem lens : List ℕ) → Refuses (transfer_step c (length u))
    → ((transfer_step c (length u)).channel ≡ c) × (transfer_mem c u mem ≡ mem) × (transfer_lens c u lens ≡ lens)
transfer_unchanged c u mem lens n =
    either_way (is_accepted c (length u))
    (λ e. absurd (n (ap (λ (x : Stepped). number_of x.answer) (transfer_done c u mem lens e))))
    (λ e. (
      ap (λ (x : Stepped). x.channel) (transfer_no c u mem lens e),
      transfer_no_mem c u mem lens e,
      transfer_no_lens c u mem lens e,
    ))

pub data_ack_unchanged : (c : Channel) (number : ℕ) → Refuses (data_ack_step c number) → (data_ack_step c number).channel ≡ c
data_ack_unchanged c number = data_ack_cases c (Keeps c) number (λ n. refl) (λ n. refl) (λ e n. absurd (n refl))

pub control_ack_unchanged : (c : Channel) (number : ℕ) → Refuses (control_ack_step c number) → (control_ack_step c number).channel ≡ c
control_ack_unchanged c number =
    control_ack_cases c (Keeps c) number (λ n. refl) (λ n. refl) (λ e n. absurd (n refl)) (λ e n. absurd (n refl)) (λ e n. absurd (n refl))

pub heartbeat_unchanged : (c : Channel) → Refuses (heartbeat_step c) → (heartbeat_step c).channel ≡ c
heartbeat_unchanged c = heartbeat_cases c (Keeps c) (λ n. refl) (λ e n. refl)

pub heartbeat_ack_unchanged : (c : Channel) (number : ℕ) → Refuses (heartbeat_ack_step c number) → (heartbeat_ack_step c number).channel ≡ c
heartbeat_ack_unchanged c number = heartbeat_ack_cases c (Keeps c) (λ n. refl) number (λ n. refl) (λ e n. absurd (n refl))

pub hand_unchanged : (node : Node) (c : Channel) (lens mem : List ℕ) (rank : ℕ) (out : List ℕ) → Refuses (hand_step c lens rank (length out))
    → ((hand_step c lens rank (length out)).channel ≡ c) × (hand_out node c lens mem rank out ≡ out)
unfolding hand_step hand_out
hand_unchanged node c lens mem rank out = go (ltb (length out) (next_length c lens rank))
  where
    by : Bool → Stepped
    by a = if a then refusing c (refusal.Small (next_length c lens rank)) else doing (next_out c rank) (next_length c lens rank)

    after : Bool → List ℕ
    after a =
        if a then out
        else after_write (Ok (next_length c lens rank)) (next_fields node c rank) (prefix_of c.addresses.own) (next_payload c lens mem rank) out

    go : (a : Bool) → Refuses (by a) → ((by a).channel ≡ c) × (after a ≡ out)
    go true n = (refl, refl)
    go false n = absurd (n refl)

pub reclaim_unchanged : (c : Channel) (lens mem out : List ℕ) → Refuses (reclaim_step c lens (length out))
    → ((reclaim_step c lens (length out)).channel ≡ c) × (reclaim_out c lens mem out ≡ out)
reclaim_unchanged c lens mem out =
    reclaim_out_cases c lens mem out (λ (s : Stepped) (o : List ℕ). Refuses s → (s.channel ≡ c) × (o ≡ out))
    (λ n. (refl, refl)) (λ n. (refl, refl)) (λ n. (refl, refl)) (λ n. absurd (n refl))

-- all of them together
pub record Unchanged (node : Node) (c : Channel) (u mem lens out : List ℕ) (rank number : ℕ) : Type 0 where
  pub opening : Refuses (open_step c) → (open_step c).channel ≡ c
  pub close : Refuses (close_step c) → (close_step c).channel ≡ c
  pub transfer : Refuses (transfer_step c (length u))
      → ((transfer_step c (length u)).channel ≡ c) × (transfer_mem c u mem ≡ mem) × (transfer_lens c u lens ≡ lens)
  pub hand : Refuses (hand_step c lens rank (length out))
      → ((hand_step c lens rank (length out)).channel ≡ c) × (hand_out node c lens mem rank out ≡ out)
  pub control_ack : Refuses (control_ack_step c number) → (control_ack_step c number).channel ≡ c
  pub data_ack : Refuses (data_ack_step c number) → (data_ack_step c number).channel ≡ c
  pub heartbeat : Refuses (heartbeat_step c) → (heartbeat_step c).channel ≡ c
  pub heartbeat_ack : Refuses (heartbeat_ack_step c number) → (heartbeat_ack_step c number).channel ≡ c
  pub reclaim : Refuses (reclaim_step c lens (length out))
      → ((reclaim_step c lens (length out)).channel ≡ c) × (reclaim_out c lens mem out ≡ out)

pub refusals_change_nothing : (node : Node) (c : Channel) (u mem lens out : List ℕ) (rank number : ℕ) → Unchanged node c u mem lens out rank number
refusals_change_nothing node c u mem lens out rank number =
    record {
      opening = open_unchanged c;
      close = close_unchanged c;
      transfer = transfer_unchanged c u mem lens;
      hand = hand_unchanged node c lens mem rank out;
      control_ack = control_ack_unchanged c number;
      data_ack = data_ack_unchanged c number;
      heartbeat = heartbeat_unchanged c;
      heartbeat_ack = heartbeat_ack_unchanged c number;
      reclaim = reclaim_unchanged c lens mem out;
    }
