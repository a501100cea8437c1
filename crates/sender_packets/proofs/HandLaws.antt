-- Laws of the hand-out: which packet is ready, and what its hand-out answers in each case.
-- Assumes nothing.
use Rattle.std.proofs.Common.{◌≡◌, ℕ, zero, suc, ◌+◌, ◌-◌, ◌<◌, ◌≤◌, Bool, true, false, ◌&&◌, ◌||◌, eqb, ltb, List, [], ◌∷◌, length, get_or, take, sym, refl, ap, ◌∙◌, subst, add-one, arith, length-take-le, ltb-true, le-ltb, ne_eqb, eqb-true, le-leb}
use mathlib.Core.Bool.{false≢true}
use mir.Val.{bool_byte}
use Rattle.std.specs.Prelude.{Ok, if◌then◌else◌}
use Rattle.laws.proofs.Choice.{chosen, passed_by, both, either, either_way}
use Rattle.slots.specs.Ring.{round_of}
use Rattle.slots.specs.Slots.{segment_in}
use Rattle.channel.specs.Places.{slot_of}
use Rattle.packet.specs.declared.fields.Fields.{Fields}
use Rattle.packet.specs.declared.kinds.Kind.TheVariants.{Data, Open, Close, Heartbeat, FlowControl}
use Rattle.packet.specs.Kinds.{kind_of}
use Rattle.packet.specs.Layout.{most_prefix}
use Rattle.packet.specs.Tests.{lacking, strange, flags_last, flags_whole}
use Rattle.packet.specs.Writing.{after_write}
use Rattle.channel.specs.declared.record.Node.{Node}
use Rattle.channel.specs.declared.record.Addresses.{Addresses}
use Rattle.channel.specs.declared.record.Channel.{Channel}
use Rattle.channel.specs.Record.{enabled, opened, closing}
use Rattle.channel.specs.Prefixes.{prefix_of, fit_prefix}
use Rattle.channel.proofs.PrefixLaws.{prefix_short}
use Rattle.channel.specs.Steps.{doing, outgoing_of, outgoing_length}
use Rattle.channel.specs.Flow.{stated}
use Rattle.sender_packets.specs.Asked.{Plain}
use Rattle.sender.specs.Directives.{place_at}
use Rattle.sender_packets.specs.HandingOut.{again_in, again_at, ready_open, ready_single, ready_again, next_in_window, ready_new, ready, single_fields, single_count, single_payload, single_out, again_out, new_out, is_flow, data_fields, next_fields, next_payload, next_out, sent_step, sent_out, hand_step, hand_out}

-- the control packet is looked at in ENABLED and CLOSING
module _ (state : ℕ) (b : Bool) where
  pub control_other : (state ≡ enabled → ⊥) → (state ≡ closing → ⊥) → ((eqb state enabled || eqb state closing) && b) ≡ false
  control_other h k = simp (ne_eqb state enabled h, ne_eqb state closing k)

module _ (c : Channel) where
  -- ---- what a rank that is ready has shown

  pub ready_as : {r k : ℕ} → r ≡ k → ready r c ≡ true → ready k c ≡ true
  ready_as e h = ap (λ (n : ℕ). ready n c) (sym e) ∙ h

  -- ranks 1 and 2 are of OPEN
  pub ready_open_lem : (r : ℕ) → ready r c ≡ true → (r ≡ 0 → ⊥) → c.phase.state ≡ opened
  unfolding ready
  ready_open_lem r e z = go (eqb r 1) (eqb r 2) (sym (passed_by (eqb r 0) (ready_single c) _ (ne_eqb r 0 z)) ∙ e)
    where
      go : (x y : Bool) → (if x then ready_again c else if y then ready_new c else false) ≡ true → c.phase.state ≡ opened
      go true y e = eqb-true _ _ (both (eqb c.phase.state opened) _ e).0
      go false true e = eqb-true _ _ (both (eqb c.phase.state opened) _ e).0
      go false false e = absurd (false≢true e)

  pub ready_1_is : ready 1 c ≡ true → again_at c < c.window.flight
  unfolding ready
  ready_1_is e = ltb-true _ _ (both (eqb c.phase.state opened) _ e).1

  pub ready_2_is : ready 2 c ≡ true → (c.window.flight < c.window.ahead) × (c.window.flight < c.limits.window)
  unfolding ready
  ready_2_is e =
      let q = both _ _ (both (next_in_window c.limits c.window) _ (both (eqb c.phase.state opened) _ e).1).0 in
      (ltb-true _ _ q.0, ltb-true _ _ q.1)

  -- what is ready in OPEN beside Data is of rank 0
  pub ready_beside_lem : ready_open c ≡ true → ready 0 c ≡ true
  unfolding ready
  ready_beside_lem e = let q = both (eqb c.phase.state opened) _ e in simp q.0 q.1

-- ---- segments that wait to be resent: at one that does, at one that does not, and at their end

module _ (acked left : List ℕ) (slots : ℕ) where
  pub again_stop : (n s : ℕ) → (eqb (get_or acked s 0) 0 && eqb (get_or left s 0) 0) ≡ true → again_in acked left slots n s ≡ 0
  unfolding again_in
  again_stop zero s h = refl
  again_stop (suc n) s h = chosen (eqb (get_or acked s 0) 0 && eqb (get_or left s 0) 0) _ _ h

  pub again_more : (n i s : ℕ) → i < n → (eqb (get_or acked s 0) 0 && eqb (get_or left s 0) 0) ≡ false
      → again_in acked left slots (n - i) s ≡ again_in acked left slots (n - (i + 1)) (round_of slots (s + 1)) + 1
  unfolding again_in
  again_more n i s l h =
      let e : n - i ≡ suc (n - (i + 1)) = omega arith in
      ap (λ (k : ℕ). again_in acked left slots k s) e
      ∙ passed_by (eqb (get_or acked s 0) 0 && eqb (get_or left s 0) 0) _ _ h
      ∙ sym (add-one _)

  pub again_none : (n i s : ℕ) → n ≤ i → again_in acked left slots (n - i) s ≡ 0
  unfolding again_in
  again_none n i s h = let e : n - i ≡ 0 = omega arith in rw e

-- ---- a packet that goes out

module _ (before after : Channel) (x n : ℕ) where
  pub sent_done : outgoing_length before.addresses x ≤ n → sent_step before after x n ≡ doing after (outgoing_length before.addresses x)
  sent_done h = passed_by (ltb n (outgoing_length before.addresses x)) _ _ (le-ltb _ _ h)

module _ (a : Addresses) (f : Fields) (p out : List ℕ) where
  pub out_done : outgoing_length a (length p) ≤ length out → sent_out a f p out ≡ after_write (Ok (outgoing_length a (length p))) f (prefix_of a.own) p out
  out_done h = passed_by (ltb (length out) (outgoing_length a (length p))) _ _ (le-ltb _ _ h)

-- a flag as a number
pub one_if : (flow : Bool) → bool_byte flow ≡ (if flow then 1 else 0)
one_if true = refl
one_if false = refl

-- its writer never refuses it
module _ (node : Node) (a : Addresses) (fits : fit_prefix a.own ≡ true) where
  few : ltb most_prefix a.own.length ≡ false
  few = le-ltb most_prefix a.own.length (prefix_short a.own fits)

  open_base : lacking (outgoing_of node a Open flags_whole 0) a.own.length ≡ false
  unfolding lacking kind_of
  open_base = simp (few)

  close_base : lacking (outgoing_of node a Close flags_whole 0) a.own.length ≡ false
  unfolding lacking kind_of
  close_base = simp (few)

  beat_base : lacking (outgoing_of node a Heartbeat flags_whole 0) a.own.length ≡ false
  unfolding lacking kind_of
  beat_base = simp (few)

  beat_plain : strange (outgoing_of node a Heartbeat flags_whole 0) 0 ≡ false
  unfolding strange kind_of
  beat_plain = refl

  open_plain : strange (outgoing_of node a Open flags_whole 0) 0 ≡ false
  unfolding strange kind_of
  open_plain = refl

  close_plain : strange (outgoing_of node a Close flags_whole 0) 0 ≡ false
  unfolding strange kind_of
  close_plain = refl

  module _ (number : ℕ) where
    flow_base : lacking (outgoing_of node a FlowControl flags_whole number) a.own.length ≡ false
    unfolding lacking kind_of
    flow_base = simp (few)

    flow_plain : strange (outgoing_of node a FlowControl flags_whole number) 1 ≡ false
    unfolding strange kind_of
    flow_plain = refl

  pub single_plain : (state : ℕ) (flow : Bool) (number : ℕ)
      → Plain a
      (outgoing_of node a (if flow then FlowControl else if eqb state enabled then Open else if eqb state opened then Heartbeat else Close) flags_whole (if flow then number else 0))
      (if flow then 1 else 0)
  single_plain state flow number = go flow (eqb state enabled) (eqb state opened)
    where
      go : (v t u : Bool)
          → Plain a (outgoing_of node a (if v then FlowControl else if t then Open else if u then Heartbeat else Close) flags_whole (if v then number else 0)) (if v then 1 else 0)
      go true t u = record { fits = fits; base = flow_base number; plain = flow_plain number; short = omega arith }
      go false true u = record { fits = fits; base = open_base; plain = open_plain; short = omega arith }
      go false false true = record { fits = fits; base = beat_base; plain = beat_plain; short = omega arith }
      go false false false = record { fits = fits; base = close_base; plain = close_plain; short = omega arith }

  -- one octet or none
  pub one_or_none : (flow : Bool) → (if flow then 1 else 0) ≤ 1
  one_or_none flow = either (λ (n : ℕ). n ≤ 1) flow 1 0 (omega arith) (omega arith)

  pub single_goes : (state : ℕ) (flow : Bool) (number octet n : ℕ) → n ≡ (if flow then 1 else 0)
      → Plain a
      (outgoing_of node a (if flow then FlowControl else if eqb state enabled then Open else if eqb state opened then Heartbeat else Close) flags_whole (if flow then number else 0))
      (length (take n (octet ∷ [])))
  single_goes state flow number octet n e =
      let few = subst (λ (k : ℕ). k ≤ 1) (sym e) (one_or_none flow) in
      subst (λ (k : ℕ). Plain a (outgoing_of node a (if flow then FlowControl else if eqb state enabled then Open else if eqb state opened then Heartbeat else Close) flags_whole (if flow then number else 0)) k)
      (sym (length-take-le n (octet ∷ []) few ∙ e)) (single_plain state flow number)

  module _ (flags number x : ℕ) where
    data_base : lacking (outgoing_of node a Data flags number) a.own.length ≡ false
    unfolding lacking kind_of
    data_base = simp (few)

    -- one that does not end its unit is not empty
    data_strange : flags ≤ 3 → x ≤ 1024 → (x ≡ 0 → flags_last ≤ flags) → strange (outgoing_of node a Data flags number) x ≡ false
    unfolding strange kind_of
    data_strange h k some =
        either_way (eqb x 0)
        (λ e. simp (le-leb flags 3 h, e, le-leb flags_last flags (some (eqb-true x 0 e))))
        (λ e. simp (le-leb flags 3 h, e, le-leb x 65535 (omega arith)))

    pub data_plain : flags ≤ 3 → x ≤ 1024 → (x ≡ 0 → flags_last ≤ flags) → Plain a (outgoing_of node a Data flags number) x
    data_plain h k some = record { fits = fits; base = data_base; plain = data_strange h k some; short = k }

-- what is sent alone carries one octet or none
pub single_length : (c : Channel) → length (single_payload c) ≡ single_count c
single_length c = length-take-le (single_count c) (stated c.limits c.window ∷ []) (either (λ (n : ℕ). n ≤ 1) (is_flow c) 1 0 (omega arith) (omega arith))

-- ---- the hand-out of each rank

module _ (node : Node) (c : Channel) (lens mem out : List ℕ) where
  pub hand_single : hand_step c lens 0 (length out) ≡ sent_step c (single_out c) (single_count c) (length out)
  unfolding hand_step next_out
  hand_single = refl

  pub hand_again : hand_step c lens 1 (length out) ≡ sent_step c (again_out c) (get_or lens (slot_of c (place_at c (again_at c))) 0) (length out)
  unfolding hand_step next_out
  hand_again = refl

  pub hand_new : hand_step c lens 2 (length out) ≡ sent_step c (new_out c) (get_or lens (slot_of c (place_at c c.window.flight)) 0) (length out)
  unfolding hand_step next_out
  hand_new = refl

  -- the buffer, where the segment in the slot has the slot's length
  sized_out : (f : Fields) (p : List ℕ) (x : ℕ) → length p ≡ x
      → (if ltb (length out) (outgoing_length c.addresses x) then out else after_write (Ok (outgoing_length c.addresses x)) f (prefix_of c.addresses.own) p out)
      ≡ sent_out c.addresses f p out
  sized_out f p x e =
      ap
      (λ (k : ℕ).
      if ltb (length out) (outgoing_length c.addresses k) then out else after_write (Ok (outgoing_length c.addresses k)) f (prefix_of c.addresses.own) p out)
      (sym e)

  pub out_single : hand_out node c lens mem 0 out ≡ sent_out c.addresses (single_fields node c) (single_payload c) out
  unfolding hand_out next_fields next_payload
  out_single = sized_out (single_fields node c) (single_payload c) (single_count c) (single_length c)

  pub out_again : length (segment_in c.limits.payload mem lens (slot_of c (place_at c (again_at c)))) ≡ get_or lens (slot_of c (place_at c (again_at c))) 0
      → hand_out node c lens mem 1 out ≡ sent_out c.addresses (data_fields node c (again_at c)) (segment_in c.limits.payload mem lens (slot_of c (place_at c (again_at c)))) out
  unfolding hand_out next_fields next_payload
  out_again e = sized_out (data_fields node c (again_at c)) (segment_in c.limits.payload mem lens (slot_of c (place_at c (again_at c)))) (get_or lens (slot_of c (place_at c (again_at c))) 0) e

  pub out_new : length (segment_in c.limits.payload mem lens (slot_of c (place_at c c.window.flight))) ≡ get_or lens (slot_of c (place_at c c.window.flight)) 0
      → hand_out node c lens mem 2 out ≡ sent_out c.addresses (data_fields node c c.window.flight) (segment_in c.limits.payload mem lens (slot_of c (place_at c c.window.flight))) out
  unfolding hand_out next_fields next_payload
  out_new e = sized_out (data_fields node c c.window.flight) (segment_in c.limits.payload mem lens (slot_of c (place_at c c.window.flight))) (get_or lens (slot_of c (place_at c c.window.flight)) 0) e
