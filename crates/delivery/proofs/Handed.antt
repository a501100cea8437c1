-- The packet that a record hands out: its fields and its payload, read from the octets written.
-- Assumes nothing.
use mathlib.Core.Path.{◌≡◌, refl, sym, ap, ap₂, ◌∙◌, subst}
use mathlib.Core.Bool.{Bool, true, false, false≢true}
use mathlib.Core.List.{List}
use Prim.Native.Nat.{ℕ, ◌+◌, ◌-◌, ◌%◌, ◌≤◌, ◌<◌}
use native.Mathlib.Omega.{arith}
use borrow.Author.Tests.{eqb-true, eqb-false, eq-eqb, ne_eqb, ltb-false}
use lib.Dec.{ltb, eqb}
use lib.ListN.{length, get_or, take, drop}
use Rattle.std.specs.Prelude.{Ok, if◌then◌else◌}
use Rattle.laws.proofs.Choice.{chosen, passed_by}
use Rattle.slots.specs.Slots.{segment_in}
use Rattle.channel.specs.Places.{slot_of}
use Rattle.packet.specs.declared.kinds.Kind.TheVariants.{Data, Open, Close, Heartbeat, FlowControl}
use Rattle.packet.specs.Kinds.{code_of, kind_of, is_data}
use Rattle.packet.specs.declared.fields.Fields.{Fields}
use Rattle.packet.specs.Layout.{payload_at, fields_at, payload_in}
use Rattle.packet.specs.Reading.{finds, read_of}
use Rattle.packet.specs.Writing.{written_of, after_write}
use Rattle.packet.proofs.WriteLaws.{write_done}
use Rattle.packet.proofs.ReadLaws.{accepted}
use Rattle.packet.proofs.RoundTrip.{written_then_read}
use Rattle.walks.specs.Serving.{Worked, works}
use Rattle.channel.specs.declared.record.Node.{Node}
use Rattle.channel.specs.declared.record.Channel.{Channel}
use Rattle.channel.specs.declared.answer.Refusal.TheVariants as refusal
use Rattle.channel.specs.declared.step.Stepped.{Stepped}
use Rattle.channel.specs.Record.{enabled, opened}
use Rattle.channel.specs.Flow.{flow_number}
use Rattle.channel.specs.Steps.{refusing, doing, outgoing_length}
use Rattle.channel.specs.Prefixes.{prefix_of}
use Rattle.channel.proofs.PrefixLaws.{prefix_length}
use Rattle.channel.specs.Asked.{Asked}
use Rattle.channel.proofs.StandingLaws.{counted_is, own_fits}
use Rattle.sender.specs.Directives.{place_at}
use Rattle.sender_packets.specs.Asked.{Ready, Plain}
use Rattle.sender_packets.specs.HandingOut.{again_at, is_flow, single_count, single_payload, single_fields, data_fields, segment_for, next_fields, next_payload, next_out, next_length, hand_step, hand_out}
use Rattle.sender_packets.proofs.HandLaws.{ready_as, ready_1_is, ready_2_is, single_plain, single_length, data_plain}
use Rattle.sender_packets.proofs.LyingLaws.{lying, segment_sized}
use Rattle.requests.specs.Handing.{next_for}

-- ---- fields

-- wherever it goes, it goes to the channel's other end
module _ (node : Node) (c : Channel) (rank : ℕ) where
  pub next_destination : (next_fields node c rank).destination ≡ c.addresses.remote
  unfolding next_fields
  next_destination = go (eqb rank 0)
    where
      go : (b : Bool) → (if b then single_fields node c else data_fields node c (segment_for c rank)).destination ≡ c.addresses.remote
      go true = refl
      go false = refl

  pub next_channel : (next_fields node c rank).channel ≡ c.addresses.channel
  unfolding next_fields
  next_channel = go (eqb rank 0)
    where
      go : (b : Bool) → (if b then single_fields node c else data_fields node c (segment_for c rank)).channel ≡ c.addresses.channel
      go true = refl
      go false = refl

  -- rank 0 is Control, the Heartbeat or Flow Control, and the others are Data
  pub next_single : rank ≡ 0 → next_fields node c rank ≡ single_fields node c
  unfolding next_fields
  next_single e = chosen (eqb rank 0) (single_fields node c) (data_fields node c (segment_for c rank)) (eq-eqb rank 0 e)

  pub next_data : (rank ≡ 0 → ⊥) → next_fields node c rank ≡ data_fields node c (segment_for c rank)
  unfolding next_fields
  next_data e = passed_by (eqb rank 0) (single_fields node c) (data_fields node c (segment_for c rank)) (ne_eqb rank 0 e)

-- a packet of rank 0 is no Data
pub single_kind_lem : (node : Node) (c : Channel) → kind_of (single_fields node c).kind ≡ Data → ⊥
unfolding kind_of
single_kind_lem node c = go (is_flow c) (eqb c.phase.state enabled) (eqb c.phase.state opened)
  where
    go : (v b d : Bool) → kind_of (code_of (if v then FlowControl else if b then Open else if d then Heartbeat else Close)) ≡ Data → ⊥
    go true b d e = false≢true (ap is_data e)
    go false true d e = false≢true (ap is_data e)
    go false false true e = false≢true (ap is_data e)
    go false false false e = false≢true (ap is_data e)

module _ (c : Channel) (mem lens : List ℕ) (rank : ℕ) where
  pub payload_single : rank ≡ 0 → next_payload c lens mem rank ≡ single_payload c
  unfolding next_payload
  payload_single e = chosen (eqb rank 0) (single_payload c) (segment_in c.limits.payload mem lens (slot_of c (place_at c (segment_for c rank)))) (eq-eqb rank 0 e)

  pub payload_data : (rank ≡ 0 → ⊥) → next_payload c lens mem rank ≡ segment_in c.limits.payload mem lens (slot_of c (place_at c (segment_for c rank)))
  unfolding next_payload
  payload_data e = passed_by (eqb rank 0) (single_payload c) (segment_in c.limits.payload mem lens (slot_of c (place_at c (segment_for c rank)))) (ne_eqb rank 0 e)

-- ---- the packet

-- these octets are the packet of the rank, and are read as that
pub record Carries (node : Node) (c : Channel) (mem lens : List ℕ) (rank : ℕ) (packet : List ℕ) : Type 0 where
  pub read : read_of packet ≡ finds (next_fields node c rank) (length (prefix_of c.addresses.own)) (payload_at (length (prefix_of c.addresses.own))) (length (next_payload c lens mem rank))
  pub fields : fields_at packet ≡ next_fields node c rank
  pub payload : payload_in packet ≡ next_payload c lens mem rank

module _ (node : Node) (c : Channel) (mem lens : List ℕ) (a : Asked c mem lens) (rank : ℕ) (ready : Ready c rank) where
  -- a segment that is handed out is held
  pub segment_ahead : (rank ≡ 0 → ⊥) → segment_for c rank < c.window.ahead
  segment_ahead some = go (eqb rank 1) refl
    where
      go : (b : Bool) → eqb rank 1 ≡ b → (if b then again_at c else c.window.flight) < c.window.ahead
      go true e =
          let n = counted_is c.limits c.window a.standing.ring a.standing.flight in
          omega (arith, n.flight, ready_1_is c (ready_as c (eqb-true rank 1 e) ready.is))
      go false e =
          let not-one = eqb-false rank 1 e in
          let below = ready.some in
          let two : rank ≡ 2 = omega (arith, some, not-one, below) in
          (ready_2_is c (ready_as c two ready.is)).0

  -- what is written is plain, and of the length that was reckoned
  pub next_plain : Plain c.addresses (next_fields node c rank) (length (next_payload c lens mem rank)) × (next_length c lens rank ≡ outgoing_length c.addresses (length (next_payload c lens mem rank)))
  next_plain = go (eqb rank 0) refl
    where
      go : (b : Bool) → eqb rank 0 ≡ b
          → Plain c.addresses (next_fields node c rank) (length (next_payload c lens mem rank))
          × (outgoing_length c.addresses (if b then single_count c else get_or lens (slot_of c (place_at c (segment_for c rank))) 0) ≡ outgoing_length c.addresses (length (next_payload c lens mem rank)))
      go true e =
          let zero = eqb-true rank 0 e in
          let p : length (next_payload c lens mem rank) ≡ single_count c = ap length (payload_single c mem lens rank zero) ∙ single_length c in (
            subst (λ (f : Fields). Plain c.addresses f (length (next_payload c lens mem rank))) (sym (next_single node c rank zero))
                (subst (λ (n : ℕ). Plain c.addresses (single_fields node c) n) (sym p) (single_plain node c.addresses (own_fits c lens a.standing) c.phase.state (is_flow c) (flow_number c.pulse.flow))),
            ap (outgoing_length c.addresses) (sym p),
          )
      go false e =
          let some = eqb-false rank 0 e in
          let i = segment_for c rank in
          let there = lying c mem lens a i (segment_ahead some) (place_at c i) (slot_of c (place_at c i)) refl refl in
          let p : length (next_payload c lens mem rank) ≡ get_or lens (slot_of c (place_at c i)) 0
          = ap length (payload_data c mem lens rank some) ∙ segment_sized c mem lens a i (segment_ahead some)
          in (
            subst (λ (f : Fields). Plain c.addresses f (length (next_payload c lens mem rank))) (sym (next_data node c rank some))
                (data_plain node c.addresses (own_fits c lens a.standing) (get_or c.marks (place_at c i) 0 - 1) ((c.window.start + i) % 256) (length (next_payload c lens mem rank))
                (omega (arith, there.mark)) (omega (arith, p, there.short, there.most)) (λ z. omega (arith, there.ends (sym p ∙ z)))),
            ap (outgoing_length c.addresses) (sym p),
          )

  carries : (out : List ℕ) → next_length c lens rank ≤ length out
      → Carries node c mem lens rank
      (take (next_length c lens rank) (after_write (Ok (next_length c lens rank)) (next_fields node c rank) (prefix_of c.addresses.own) (next_payload c lens mem rank) out))
  carries out room =
      let f = next_fields node c rank in
      let p = next_payload c lens mem rank in
      let own = c.addresses.own in
      let q = prefix_of own in
      let whole = outgoing_length c.addresses (length p) in
      let plain = next_plain in
      let done = ap (λ (n : ℕ). written_of f n (length p) (length out)) (prefix_length own)
      ∙ write_done f own.length (length p) (length out) plain.0.base plain.0.plain (omega (arith, room, plain.1))
      in
      let back = written_then_read f q p out whole done in
      let packet = take whole (after_write (Ok whole) f q p out) in
      let got = accepted packet f (length q) (payload_at (length q)) (length p) back.answer in
      subst (λ (n : ℕ). Carries node c mem lens rank (take n (after_write (Ok n) f q p out))) (sym plain.1)
      (record {
        read = back.answer;
        fields = got.fields;
        payload = ap₂ (λ (n k : ℕ). take n (drop (payload_at k) packet)) got.payload got.prefix ∙ back.payload;
      })

  -- a buffer that is too small, and one in which the packet is written
  pub hand_cases : (P : Worked Stepped → Type 0) (out : List ℕ)
      → P (works (refusing c (refusal.Small (next_length c lens rank))) mem lens out)
      → ((n : ℕ) (o : List ℕ) → Carries node c mem lens rank (take n o) → P (works (doing (next_out c rank) n) mem lens o))
      → P (next_for node c rank mem lens out)
  unfolding next_for hand_step hand_out
  hand_cases P out small done = go (ltb (length out) (next_length c lens rank)) refl
    where
      go : (b : Bool) → ltb (length out) (next_length c lens rank) ≡ b
          → P
          (works (if b then refusing c (refusal.Small (next_length c lens rank)) else doing (next_out c rank) (next_length c lens rank)) mem lens
          (if b then out else after_write (Ok (next_length c lens rank)) (next_fields node c rank) (prefix_of c.addresses.own) (next_payload c lens mem rank) out))
      go true e = small
      go false e = done (next_length c lens rank) _ (carries out (ltb-false (length out) (next_length c lens rank) e))
