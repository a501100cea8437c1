-- No step changes what the settings fixed, so what the steps ask holds again after each.
-- Assumes nothing.
use mathlib.Core.Path.{◌≡◌, refl, sym, subst}
use mathlib.Core.List.{List}
use Prim.Native.Nat.{ℕ}
use lib.Dec.{ltb, eqb}
use lib.ListN.{length}
use Rattle.laws.proofs.Choice.{either}
use Rattle.channel.specs.declared.record.Lone.{Lone}
use Rattle.channel.specs.declared.record.Channel.{Channel}
use Rattle.channel.specs.declared.step.Stepped.{Stepped}
use Rattle.channel.specs.Record.{sends, closed, closing, retries_out, unanswered, no_lone}
use Rattle.channel.specs.Lone.{ready_lone}
use Rattle.channel.specs.Asked.{Asked}
use Rattle.channel.proofs.FixedLaws.{SameSettings, asked_again}
use Rattle.sender_packets.specs.Asked.{Ready}
use Rattle.sender.specs.Directives.{parked, shut_for, open_step, close_step}
use Rattle.sender_units.specs.Transfer.{is_accepted, transfer_step, transfer_mem, transfer_lens}
use Rattle.sender_packets.specs.HandingOut.{single_out, again_out, new_out, next_out, next_length, hand_step}
use Rattle.sender_acks.specs.Acks.{control_ack_step, away_of, recorded, advanced, data_ack_step}
use Rattle.sender.specs.Ticking.{data_fallen, tick_step}
use Rattle.sender_units.specs.Reclaiming.{reclaim_step}
use Rattle.ends.proofs.SenderCases.{open_cases, close_cases, control_ack_cases, data_ack_cases, reclaim_cases, tick_cases}
use Rattle.ends.proofs.KeepsDirectives.{open_stands, close_stands, control_ack_stands, tick_stands}
use Rattle.ends.proofs.KeepsHandingOut.{hand_stands}
use Rattle.ends.proofs.KeepsReclaiming.{reclaim_stands}
use Rattle.ends.proofs.KeepsAcks.{data_ack_stands}
use Rattle.ends.proofs.KeepsTransfer.{transfer_stands, transfer_sized}

module _ (c : Channel) where
  parked_fixed : (state : ℕ) (control : Lone) → SameSettings c (parked c state control)
  unfolding parked
  parked_fixed state control = (refl, refl)

  shut_fixed : (why : ℕ) → SameSettings c (shut_for c why)
  unfolding parked
  shut_fixed why = (refl, refl)

  unheard_fixed : SameSettings c (shut_for (data_fallen c) unanswered)
  unfolding parked
  unheard_fixed = (refl, refl)

  advanced_fixed : SameSettings c (advanced c)
  unfolding advanced
  advanced_fixed = (refl, refl)

  abbrev Fixed : Stepped → Type 0
  Fixed s = SameSettings c s.channel

  pub open_fixed : SameSettings c (open_step c).channel
  open_fixed = open_cases c Fixed (refl, refl) (refl, refl) (refl, refl)

  pub close_fixed : SameSettings c (close_step c).channel
  close_fixed = close_cases c Fixed (refl, refl) (λ e. parked_fixed closing ready_lone) (refl, refl)

  pub control_ack_fixed : (number : ℕ) → SameSettings c (control_ack_step c number).channel
  control_ack_fixed number =
      control_ack_cases c Fixed number (refl, refl) (refl, refl) (λ e. parked_fixed closed no_lone) (λ e. (refl, refl)) (λ e. parked_fixed closing ready_lone)

  pub tick_fixed : SameSettings c (tick_step c).channel
  tick_fixed =
      tick_cases c (SameSettings c) (λ e. shut_fixed retries_out) (λ e. shut_fixed retries_out) (λ e. shut_fixed retries_out) (λ e. unheard_fixed) (λ e. (refl, refl)) (λ e. (refl, refl)) (refl, refl)

  next_fixed : (rank : ℕ) → SameSettings c (next_out c rank)
  unfolding next_out
  next_fixed rank =
      either (SameSettings c) (eqb rank 0) (single_out c) _ (refl, refl) (either (SameSettings c) (eqb rank 1) (again_out c) (new_out c) (refl, refl) (refl, refl))

  pub hand_fixed : (lens : List ℕ) (rank n : ℕ) → SameSettings c (hand_step c lens rank n).channel
  unfolding hand_step
  hand_fixed lens rank n = either Fixed (ltb n (next_length c lens rank)) _ _ (refl, refl) (next_fixed rank)

  pub reclaim_fixed : (lens : List ℕ) (n : ℕ) → SameSettings c (reclaim_step c lens n).channel
  reclaim_fixed lens n = reclaim_cases c Fixed lens n (refl, refl) (refl, refl) (refl, refl) (λ is some. (refl, refl))

  pub transfer_fixed : (u : List ℕ) → SameSettings c (transfer_step c (length u)).channel
  unfolding transfer_step
  transfer_fixed u =
      either (SameSettings c) (is_accepted c (length u)) _ _ (refl, refl) (refl, refl)

pub data_ack_fixed : (c : Channel) (number : ℕ) → SameSettings c (data_ack_step c number).channel
data_ack_fixed c number = data_ack_cases c (Fixed c) number (refl, refl) (refl, refl) (λ e. advanced_fixed (recorded c (away_of c number)))

-- ---- what the steps ask

-- a hand-out, at either end
pub hand_asked : (c : Channel) (mem lens : List ℕ) → Asked c mem lens → (rank n : ℕ) → Ready c rank → Asked (hand_step c lens rank n).channel mem lens
hand_asked c mem lens a rank n r =
    asked_again c (hand_step c lens rank n).channel mem lens (hand_fixed c lens rank n) (hand_stands c lens rank n a.standing r) a.sized

module _ (c : Channel) (mem lens : List ℕ) (a : Asked c mem lens) (s : c.addresses.direction ≡ sends) where
  pub open_asked : Asked (open_step c).channel mem lens
  open_asked = asked_again c (open_step c).channel mem lens (open_fixed c) (open_stands c lens a.standing) a.sized

  pub close_asked : Asked (close_step c).channel mem lens
  close_asked = asked_again c (close_step c).channel mem lens (close_fixed c) (close_stands c lens a.standing s) a.sized

  pub tick_asked : Asked (tick_step c).channel mem lens
  tick_asked = asked_again c (tick_step c).channel mem lens (tick_fixed c) (tick_stands c lens a.standing s) a.sized

  pub control_ack_asked : (number : ℕ) → Asked (control_ack_step c number).channel mem lens
  control_ack_asked number =
      asked_again c (control_ack_step c number).channel mem lens (control_ack_fixed c number) (control_ack_stands c lens number a.standing s) a.sized

  pub data_ack_asked : (number : ℕ) → Asked (data_ack_step c number).channel mem lens
  data_ack_asked number =
      asked_again c (data_ack_step c number).channel mem lens (data_ack_fixed c number) (data_ack_stands c lens number a.standing s) a.sized

  pub reclaim_asked : (n : ℕ) → Asked (reclaim_step c lens n).channel mem lens
  reclaim_asked n = asked_again c (reclaim_step c lens n).channel mem lens (reclaim_fixed c lens n) (reclaim_stands c lens n a.standing s) a.sized

  pub transfer_asked : (u : List ℕ) → length c.marks ≡ 128
      → Asked (transfer_step c (length u)).channel (transfer_mem c u mem) (transfer_lens c u lens)
  transfer_asked u wide =
      asked_again c (transfer_step c (length u)).channel (transfer_mem c u mem) (transfer_lens c u lens) (transfer_fixed c u)
      (transfer_stands c u lens wide a.standing s)
      (transfer_sized c u mem lens a.standing a.sized)
