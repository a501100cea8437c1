-- What every call of the protocol leaves in order: a sender's phase and what it has handed out, and how far a receiver accepts.
-- Assumes nothing.
use mathlib.Core.Path.{◌≡◌, refl, sym, ap, subst}
use mathlib.Core.Bool.{Bool, true, false, not}
use mathlib.Core.List.{List, [], ◌∷◌}
use mathlib.Core.Logic.{◌⊎◌, inl, inr}
use mathlib.Core.Option.{Option, none, some}
use Prim.Native.Nat.{ℕ, suc, ◌+◌, ◌-◌, ◌≤◌}
use native.Mathlib.Omega.{arith}
use borrow.Author.Tests.{eqb-true, leb-true, leb-false, ltb-true}
use lib.Dec.{leb, ltb, eqb}
use lib.ListN.{length}
use Rattle.std.specs.Prelude.{if◌then◌else◌}
use Rattle.laws.proofs.Choice.{both}
use Rattle.protocol.specs.Numbers.{number_at, distance}
use Rattle.protocol.specs.Units.{DataUnit, Segment, cut}
use Rattle.protocol.specs.Ends.{Limits, Phase, fresh, enabled, opened, closing, shut, rank, is_open, put}
use Rattle.protocol.specs.Sending as sending
use Rattle.protocol.specs.Sending.{Sender, SenderCall, sender_step}
use Rattle.protocol.specs.Receiving as receiver
use Rattle.protocol.specs.Receiving.{Receiver, ReceiverCall, receiver_step, start_of, waiting, moved}
use Rattle.means.proofs.Sends.{open_state, state_opened}
use Rattle.means.proofs.Near.{arrived_near}

-- ---- a sender

pub open_is : (p : Phase) → is_open p ≡ true → p ≡ opened
open_is p e = state_opened p (open_state p e)

-- one segment more was handed out, in OPEN
pub record OneMore (x z : Sender) : Type 0 where
  pub next : z.next ≡ suc x.next
  pub start : z.start ≡ x.start
  pub before : x.phase ≡ opened
  pub after : z.phase ≡ opened

abbrev pub Hands : Sender → Sender → Type 0
Hands x z = (z.next ≡ x.next) ⊎ OneMore x z

module _ (L : Limits) (x : Sender) where
  -- the phase goes on, and what was handed out stays handed out
  abbrev Goes : Sender → Type 0
  Goes z = (rank x.phase ≤ rank z.phase) × Hands x z

  stays : Goes x
  stays = (omega arith, inl refl)

  controls : (b : Bool) (p : Phase) → ltb (rank x.phase) (rank p) ≡ b → Goes (sending.controlled b x p).0
  controls false p e = stays
  controls true p e = (omega (arith, ltb-true (rank x.phase) (rank p) e), inl refl)

  transfers : (a b d : Bool) (l : List Segment) → Goes (sending.transferred a b d x l).0
  transfers false b d l = stays
  transfers true false d l = stays
  transfers true true false l = stays
  transfers true true true l = (omega arith, inl refl)

  hands : (i : ℕ) (b : Bool) → sending.may_hand_out L x i ≡ b → Goes (sending.handed_out b x i).0
  hands i false e = stays
  hands i true e = (omega arith, go (eqb i x.next) refl)
    where
      open_now : x.phase ≡ opened
      open_now =
          let a = (both _ (not (x.acked i)) e).0 in
          let b = (both _ (leb i x.next) a).0 in
          let c = (both _ (ltb i (length x.line)) b).0 in
          let d = (both _ (ltb i (x.start + L.window)) c).0 in
          open_is x.phase (both _ (leb x.start i) d).0

      go : (q : Bool) → eqb i x.next ≡ q → Hands x (record { phase = x.phase; line = x.line; oldest = x.oldest; start = x.start; next = if q then suc i else x.next; acked = x.acked })
      go false e = inl refl
      go true e = inr (record { next = ap suc (eqb-true i x.next e); start = refl; before = open_now; after = open_now })

  acks : (a b : Bool) (i : ℕ) → Goes (sending.acknowledged L a b x i).0
  acks false b i = stays
  acks true false i = stays
  acks true true i = (omega arith, inl refl)

  reclaims : (p : Phase) (l : List DataUnit) → Goes (sending.reclaiming p l x).0
  reclaims fresh l = stays
  reclaims enabled l = stays
  reclaims opened l = stays
  reclaims closing l = stays
  reclaims shut [] = stays
  reclaims shut (u ∷ l) = (omega arith, inl refl)

  goes : (call : SenderCall) → Goes (sender_step L x call).0
  goes (SenderCall.control p) = controls (ltb (rank x.phase) (rank p)) p refl
  goes (SenderCall.transfer u) =
      let l = cut L.payload u in
      transfers (is_open x.phase) (leb (length l) L.segments) (leb (length x.line - x.oldest + length l) L.slots) l
  goes (SenderCall.hand_out i) = hands i (sending.may_hand_out L x i) refl
  goes (SenderCall.ack i q) =
      let d = distance q (number_at x.start) in
      acks (is_open x.phase) (sending.is_awaited L x d) (x.start + d)
  goes SenderCall.reclaim = reclaims x.phase (sending.held x)
  goes SenderCall.noise = stays

pub sender_goes : (L : Limits) (x z : Sender) (call : SenderCall) → z ≡ (sender_step L x call).0 → (rank x.phase ≤ rank z.phase) × Hands x z
sender_goes L x z call e = subst (λ (z : Sender). (rank x.phase ≤ rank z.phase) × Hands x z) (sym e) (goes L x call)

-- ---- a receiver

-- the first place that it does not accept: past the window, or with no slot
abbrev pub room_from : Limits → ℕ → ℕ
room_from L behind = if leb L.window (L.slots - behind) then L.window else L.slots - behind

unfoldable pub bound : Limits → Receiver → ℕ
bound L y = start_of y + room_from L (start_of y - y.oldest)

module _ (L : Limits) where
  room_most : (n : ℕ) → room_from L n ≤ L.window
  room_most n = go (leb L.window (L.slots - n)) refl
    where
      go : (b : Bool) → leb L.window (L.slots - n) ≡ b → (if b then L.window else L.slots - n) ≤ L.window
      go true e = omega arith
      go false e = omega (arith, leb-false L.window (L.slots - n) e)

  -- no more than the window past the start
  pub bound_near : (y : Receiver) → bound L y ≤ start_of y + L.window
  unfolding bound
  bound_near y = omega (arith, room_most (start_of y - y.oldest))

  pub bound_from : (y : Receiver) → start_of y ≤ bound L y
  unfolding bound
  bound_from y = omega arith

  -- with nothing taken in yet it is the window
  pub bound_first : (y : Receiver) → L.window ≤ L.slots → start_of y ≡ 0 → bound L y ≡ L.window
  unfolding bound
  bound_first y fit e = go (leb L.window (L.slots - (start_of y - y.oldest))) refl
    where
      go : (b : Bool) → leb L.window (L.slots - (start_of y - y.oldest)) ≡ b
          → start_of y + (if b then L.window else L.slots - (start_of y - y.oldest)) ≡ L.window
      go true q = omega (arith, e)
      go false q = absurd (omega (arith, e, leb-false L.window (L.slots - (start_of y - y.oldest)) q))

  rises : (a b o p : ℕ) → o ≤ a → p ≤ b → a ≤ b → o ≤ p → a + room_from L (a - o) ≤ b + room_from L (b - p)
  rises a b o p below upto on older = go (leb L.window (L.slots - (a - o))) refl (leb L.window (L.slots - (b - p))) refl
    where
      go : (u : Bool) → leb L.window (L.slots - (a - o)) ≡ u → (v : Bool) → leb L.window (L.slots - (b - p)) ≡ v
          → a + (if u then L.window else L.slots - (a - o)) ≤ b + (if v then L.window else L.slots - (b - p))
      go true e true f = omega arith
      go true e false f = omega (arith, leb-true L.window (L.slots - (a - o)) e)
      go false e true f = omega (arith, leb-false L.window (L.slots - (a - o)) e)
      go false e false f = omega arith

  pub bound_rises : (y z : Receiver) → y.oldest ≤ start_of y → z.oldest ≤ start_of z → start_of y ≤ start_of z → y.oldest ≤ z.oldest → bound L y ≤ bound L z
  unfolding bound
  bound_rises y z = rises (start_of y) (start_of z) y.oldest z.oldest

  -- what a call leaves
  module _ (y : Receiver) where
    abbrev Grows : Receiver → Type 0
    Grows z = (start_of y ≤ start_of z) × (y.oldest ≤ z.oldest)

    same : Grows y
    same = (omega arith, omega arith)

    controlled : (b : Bool) (p : Phase) → Grows (receiver.controlled b y p).0
    controlled false p = same
    controlled true p = (omega arith, omega arith)

    settled : (b : Bool) (f : ℕ → Option Segment) (l : List Segment) → (receiver.moved_answer b y f l).0.oldest ≡ y.oldest
    settled true f l = refl
    settled false f l = refl

    placed : (b : Bool) (i : ℕ) (g : Segment) → (receiver.placed L b y i g).0.oldest ≡ y.oldest
    placed false i g = refl
    placed true i g =
        let f : ℕ → Option Segment = put y.filed i (some g) in
        let m = moved L L.window f y.passed in
        settled m.1 f m.0

    in_window_lem : (o : Option Segment) (i : ℕ) (g : Segment) → (receiver.in_window L o y i g).0.oldest ≡ y.oldest
    in_window_lem (some x) i g = refl
    in_window_lem none i g = placed (ltb i (y.oldest + L.slots)) i g

    outside : (b : Bool) → (receiver.outside b y).0.oldest ≡ y.oldest
    outside true = refl
    outside false = refl

    sorted : (b : Bool) (d : ℕ) (g : Segment) → (receiver.sorted L b y d g).0.oldest ≡ y.oldest
    sorted true d g = in_window_lem (y.filed (start_of y + d)) (start_of y + d) g
    sorted false d g = outside (leb (256 - L.window) d)

    arrived : (b : Bool) (d : ℕ) (g : Segment) → (receiver.arrived L b y d g).0.oldest ≡ y.oldest
    arrived false d g = refl
    arrived true d g = sorted (ltb d L.window) d g

    taking : (l : List DataUnit) → Grows (receiver.taking l y).0
    taking [] = same
    taking (u ∷ l) = (omega arith, omega arith)

    grows : (call : ReceiverCall) → Grows (receiver_step L y call).0
    grows (ReceiverCall.control p) = controlled (ltb (rank y.phase) (rank p)) p
    grows (ReceiverCall.arrival i q g) =
        let d = distance q (number_at (start_of y)) in
        ((arrived_near L y (is_open y.phase) d g).0, omega (arith, arrived (is_open y.phase) d g))
    grows ReceiverCall.take_unit = taking (waiting y)
    grows ReceiverCall.noise = same

  pub receiver_grows : (y z : Receiver) (call : ReceiverCall) → z ≡ (receiver_step L y call).0 → (start_of y ≤ start_of z) × (y.oldest ≤ z.oldest)
  receiver_grows y z call e = subst (λ (z : Receiver). (start_of y ≤ start_of z) × (y.oldest ≤ z.oldest)) (sym e) (grows y call)
