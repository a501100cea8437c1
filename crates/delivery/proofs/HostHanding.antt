-- The hand-out of a packet at the host: Control and a Heartbeat are nothing to the data, Data of the channel that is watched carries the segment that the protocol
-- hands out, and no packet of another channel names the subscriber's.
-- Assumes nothing.
use mathlib.Core.Path.{◌≡◌, refl, sym, ap, ap₂, ◌∙◌, subst}
use mathlib.Core.Bool.{Bool, true, false, true≢false, ◌&&◌}
use mathlib.Core.List.{List}
use mathlib.Core.Logic.{◌⊎◌, inl, inr}
use Prim.Native.Nat.{ℕ, ◌+◌, ◌%◌, ◌<◌}
use native.Mathlib.Omega.{arith}
use borrow.Author.Tests.{eqb-true, eqb-false}
use lib.Dec.{eqb}
use lib.ListN.{length, get_or, take}
use Rattle.laws.proofs.Choice.{both, either_way}
use Rattle.packet.specs.Kinds.{kind_of}
use Rattle.packet.specs.declared.fields.Fields.{Fields}
use Rattle.packet.specs.Layout.{fields_at, length_at, payload_in}
use Rattle.walks.specs.Serving.{Worked}
use Rattle.channel.specs.declared.record.Node.{Node}
use Rattle.channel.specs.declared.record.Addresses.{Addresses}
use Rattle.channel.specs.declared.record.Channel.{Channel}
use Rattle.channel.specs.declared.answer.Answer.{Answer}
use Rattle.channel.specs.declared.answer.Answer.TheVariants.{Done, Refused}
use Rattle.channel.specs.declared.answer.Refusal.{Refusal}
use Rattle.channel.specs.declared.step.Stepped.{Stepped}
use Rattle.channel.specs.Answers.{length_of}
use Rattle.channel.specs.declared.record.Prefix.{Prefix}
use Rattle.channel.specs.Prefixes.{same_prefix}
use Rattle.channel.specs.Record.{sends}
use Rattle.sender_packets.specs.Asked.{Ready}
use Rattle.sender_packets.specs.HandingOut.{segment_for, next_out}
use Rattle.table.specs.Waiting.{waits, rank_in}
use Rattle.table.proofs.WaitingLaws.{waits_receives}
use Rattle.table.specs.declared.looking.Sought.TheVariants as sought
use Rattle.table.specs.Looking.{seeking}
use Rattle.table.specs.Looking.{looks_for, same, chosen as choice}
use Rattle.table.specs.Serving.{record_at, own_mem, own_lens}
use Rattle.requests.specs.Handing.{next_for}
use Rattle.arrivals.specs.Finding.{is_ours, prefix_read}
use Rattle.node.specs.declared.request.Request.TheVariants.{NextPacket}
use Rattle.node.specs.Calls.{served}
use Rattle.keeps.proofs.StepsKeep.{next_keeps, given_waits, given_ready}
use Rattle.keeps.proofs.CallsAlone.{shapes}
use Rattle.protocol.specs.Numbers.{number_at, distance}
use Rattle.protocol.specs.Units.{Segment, blank}
use Rattle.protocol.specs.Ends.{Limits, rank}
use Rattle.protocol.specs.Sending.{Sender, SenderCall, may_hand_out, handed_out}
use Rattle.protocol.specs.Receiving.{Receiver}
use Rattle.protocol.specs.History as protocol
use Rattle.means.specs.Meaning.{carried}
use Rattle.means.proofs.Sends.{Sends, state_opened}
use Rattle.means.proofs.Handing.{DataOut, single_out_sends, data_out_sends}
use Rattle.delivery.specs.Calls.{End, hands, Request, channel_of}
use Rattle.delivery.specs.History.{Event, names, IsData, Toward, segment_of}
use Rattle.delivery.proofs.Nodes.{same_addresses, own_asked}
use Rattle.delivery.proofs.Known.{Out, limits}
use Rattle.delivery.proofs.Counting.{distance_on}
use Rattle.delivery.proofs.HostFrame.{host_event, host_next}
use Rattle.delivery.proofs.Own.{Seen, Left, own_cases}
use Rattle.delivery.proofs.Packets.{named_is, names_nothing, equal_rivals}
use Rattle.delivery.proofs.Handed.{next_destination, next_channel, next_single, next_data, single_kind_lem, payload_data, Carries, hand_cases}
use Rattle.delivery.proofs.HostNow.{HostAt, asking, own, octets, lengths, own_below, own_sends, own_limits, asked, small, alone_here, index_for, Next, waits_on, stays_so, counts_same, was_open}

-- ---- what an address test has shown

pub ours_to : (node : Node) (f : Fields) → is_ours node f ≡ true → f.destination ≡ node.address
unfolding is_ours
ours_to node f e = eqb-true f.destination node.address (both (eqb f.destination node.address) (eqb f.protocol node.protocol) e).0

pub same_channel : (a : Addresses) (f : Fields) (x : ℕ) (q : Prefix) → same a f x q ≡ true → a.channel ≡ f.channel
unfolding same
same_channel a f x q e =
    let p = both (eqb a.channel f.channel && eqb a.remote f.source && same_prefix a.prefix q) (looks_for (kind_of f.kind) x a.direction) e in
    let r = both (eqb a.channel f.channel && eqb a.remote f.source) (same_prefix a.prefix q) p.0 in
    eqb-true a.channel f.channel (both (eqb a.channel f.channel) (eqb a.remote f.source) r.0).0

-- a packet that is Data is a sender's
data_sent : (node : Node) (c : Channel) (m l : List ℕ) (rank : ℕ) (packet : List ℕ) → waits rank c ≡ true → Carries node c m l rank packet → IsData packet → c.addresses.direction ≡ sends
data_sent node c m l rank packet waiting carries kind =
    either_way (eqb c.addresses.direction sends) (λ e. eqb-true _ _ e)
    (λ e.
    let none = (waits_receives c rank (eqb-false _ _ e) waiting).0 in
    absurd (single_kind_lem node c (sym (ap (λ (f : Fields). kind_of f.kind) (carries.fields ∙ next_single node c rank none)) ∙ kind)))

-- the number of a segment, d past the start
number_on : (start i d : ℕ) → start ≡ number_at i → (start + d) % 256 ≡ number_at (i + d)
unfolding number_at
number_on start i d e = omega (arith, e)

module _ {h s : End} {past : List Event} {x : Sender} {y : Receiver} {t : List Channel} {mem lens lines : List ℕ} {n : ℕ}
    (k : HostAt h s past x y t mem lens lines n) (copy i : ℕ) (u b : List ℕ) where
  abbrev request : Request
  request = asking hands i u b

  -- ---- nothing goes to the subscriber's channel

  hand_quiet : (a : Answer) (o : List ℕ)
      → ((packet : List ℕ) → take (length_of a) o ≡ packet → Toward h (index_for k request) → names s packet ≡ true → IsData packet → ⊥)
      → Next k request copy a o (own k) (octets k) (lengths k)
  hand_quiet a o none = stays_so k request copy a o refl refl refl (λ packet _. none packet)

  hand_refused : (why : Refusal) (o : List ℕ) → Next k request copy (Refused why) o (own k) (octets k) (lengths k)
  hand_refused why o =
      hand_quiet (Refused why) o (λ packet e toward named kind. true≢false (sym (subst (λ (p : List ℕ). names s p ≡ true) (sym e) named) ∙ names_nothing s))

  -- the packet of another channel has other addresses, or goes elsewhere
  not_named : (j : ℕ) → j < length t → (j ≡ h.index → ⊥) → Toward h j → (record_at t j).addresses.direction ≡ sends → (m l : List ℕ) (rank : ℕ) (packet : List ℕ)
      → Carries h.node (record_at t j) m l rank packet → names s packet ≡ true → ⊥
  not_named j there apart toward dir m l rank packet carries named =
      let c = record_at t j in
      let w = named_is s packet named in
      let to = ap (λ (f : Fields). f.destination) carries.fields ∙ next_destination h.node c rank in
      let on = ap (λ (f : Fields). f.channel) carries.fields ∙ next_channel h.node c rank in
      alone_here k j there apart
      (equal_rivals c.addresses (channel_of h).addresses
      (sym on ∙ sym (same_channel (channel_of s).addresses (fields_at packet) (length_at packet) (prefix_read packet) w.same) ∙ sym k.alike.number)
      (sym to ∙ ours_to s.node (fields_at packet) w.ours ∙ sym k.alike.to_subscriber_end)
      (dir ∙ sym k.alike.sends)
      (subst (λ (a : Addresses). same_prefix a.prefix (channel_of h).addresses.prefix ≡ true) (sym (same_addresses h t mem lens k.now.kept j)) toward))

  hand_elsewhere : (j : ℕ) (there : j < length t) → (j ≡ h.index → ⊥) → index_for k request ≡ j → (rank : ℕ) → waits rank (record_at t j) ≡ true → Ready (record_at t j) rank
      → let w = next_for h.node (record_at t j) rank (own_mem t j mem) (own_lens t j lens) b in
      Next k request copy w.made.answer w.out (own k) (octets k) (lengths k)
  hand_elsewhere j there apart index rank waiting ready =
      let m = own_mem t j mem in
      let l = own_lens t j lens in
      hand_cases h.node (record_at t j) m l (own_asked h t mem lens k.now.kept j there) rank ready
      (λ (w : Worked Stepped). Next k request copy w.made.answer w.out (own k) (octets k) (lengths k)) b
      (hand_refused _ b)
      (λ z o carries.
      hand_quiet (Done z 0) o
      (λ packet e toward named kind.
      let is = subst (Carries h.node (record_at t j) m l rank) e carries in
      not_named j there apart (subst (Toward h) index toward) (data_sent h.node (record_at t j) m l rank packet waiting is kind) m l rank packet is named))

  -- ---- Control, or the Heartbeat

  hand_single : (z : ℕ) (o : List ℕ) → Carries h.node (own k) (octets k) (lengths k) 0 (take z o)
      → Next k request copy (Done z 0) o (next_out (own k) 0) (octets k) (lengths k)
  hand_single z o carries =
      let c = next_out (own k) 0 in
      let means = single_out_sends (own k) (octets k) (lengths k) x (asked k) (own_sends k) k.now.means in
      host_next h s past y x k.inv k.numbered (small k) request copy n (index_for k request) (Done z 0) o SenderCall.noise tt tt refl refl refl
      (λ j packet _ wrote _ _ _ kind.
      let fields = (subst (Carries h.node (own k) (octets k) (lengths k) 0) wrote carries).fields ∙ next_single h.node (own k) 0 refl in
      absurd (single_kind_lem h.node (own k) (sym (ap (λ (f : Fields). kind_of f.kind) fields) ∙ kind)))
      (own k) c (octets k) (lengths k) means
      (counts_same k c (octets k) (lengths k) x means refl (was_open k refl))
      (waits_on k (host_event request copy n (index_for k request) (Done z 0) o))

  -- ---- Data

  module _ (r : ℕ) (ready : Ready (own k) r) (some : r ≡ 0 → ⊥) where
    out : DataOut (own k) (octets k) (lengths k) x r
    out = data_out_sends (own k) (octets k) (lengths k) x (asked k) (own_sends k) k.now.means r ready.is (one_two r ready.some some)
      where
        one_two : (r : ℕ) → r < 3 → (r ≡ 0 → ⊥) → (r ≡ 1) ⊎ (r ≡ 2)
        one_two r few some = go (eqb r 1) refl
          where
            go : (q : Bool) → eqb r 1 ≡ q → (r ≡ 1) ⊎ (r ≡ 2)
            go true q = inl (eqb-true r 1 q)
            go false q = let z = eqb-false r 1 q in inr (omega (arith, z, few, some))

    abbrev away : ℕ
    away = segment_for (own k) r

    abbrev segment : ℕ
    segment = x.start + away

    may : may_hand_out (limits h s) x segment ≡ true
    may = subst (λ (L : Limits). may_hand_out L x segment ≡ true) (own_limits k) out.may

    began : (own k).window.start ≡ number_at x.start
    began =
        let z : rank x.phase ≡ 2 = ap rank (state_opened x.phase (sym k.now.means.state ∙ out.opened)) in
        (k.now.means.window (omega arith) (omega arith)).number

    handed_start : (q : Bool) → (handed_out q x segment).0.start ≡ x.start
    handed_start true = refl
    handed_start false = refl

    handed_phase : (q : Bool) → (handed_out q x segment).0.phase ≡ x.phase
    handed_phase true = refl
    handed_phase false = refl

    -- its number and its segment
    module _ (packet : List ℕ) (carries : Carries h.node (own k) (octets k) (lengths k) r packet) where
      number_is : (fields_at packet).number ≡ number_at segment
      number_is =
          ap (λ (f : Fields). f.number) (carries.fields ∙ next_data h.node (own k) r some)
          ∙ number_on (own k).window.start x.start away began

      segment_is : segment_of n packet ≡ segment
      segment_is =
          ap (λ (m : ℕ). segment_of m packet) k.now.counted
          ∙ ap (λ (m : ℕ). x.start + distance m (number_at x.start)) number_is
          ∙ ap (λ (m : ℕ). x.start + m) (distance_on x.start away (let z = out.away in omega arith))

      carried_is : carried (fields_at packet).flags (payload_in packet) ≡ get_or x.line segment blank
      carried_is =
          ap₂ carried
          (ap (λ (f : Fields). f.flags) (carries.fields ∙ next_data h.node (own k) r some))
          (carries.payload ∙ payload_data (own k) (octets k) (lengths k) r some)
          ∙ out.segment

    sent_so : (q : Bool) → q ≡ true → (j : ℕ) (g : Segment) → segment ≡ j → get_or x.line segment blank ≡ g
        → protocol.sent_by (SenderCall.hand_out segment) (handed_out q x segment).1 j g (Out h s past j g)
    sent_so true e j g at is = inl (at, is)
    sent_so false e j g at is = absurd (true≢false (sym e))

    hand_data : (z : ℕ) (o : List ℕ) → Carries h.node (own k) (octets k) (lengths k) r (take z o)
        → Next k request copy (Done z 0) o (next_out (own k) r) (octets k) (lengths k)
    hand_data z o carries =
        let c = next_out (own k) r in
        let q = may_hand_out (limits h s) x segment in
        let means : Sends c (octets k) (lengths k) (handed_out q x segment).0
        = subst (λ (q : Bool). Sends c (octets k) (lengths k) (handed_out q x segment).0) (sym may) out.related
        in
        host_next h s past y x k.inv k.numbered (small k) request copy n (index_for k request) (Done z 0) o (SenderCall.hand_out segment) tt tt refl refl refl
        (λ j packet _ wrote _ at _ _.
        let got = subst (Carries h.node (own k) (octets k) (lengths k) r) wrote carries in
        let is : segment ≡ j = sym (segment_is packet got) ∙ at in (
          number_is packet got ∙ ap number_at is,
          λ g e. sent_so q may j g is (sym (carried_is packet got) ∙ e),
        ))
        (own k) c (octets k) (lengths k) means
        (counts_same k c (octets k) (lengths k) (handed_out q x segment).0 means (handed_start q) (was_open k (handed_phase q)))
        (λ e. handed_phase q ∙ waits_on k (host_event request copy n (index_for k request) (Done z 0) o) e)

  -- ---- of its own

  hand_own : (r : ℕ) → Ready (own k) r → Left (Next k request copy) (next_for h.node (own k) r (octets k) (lengths k) b)
  hand_own r ready =
      hand_cases h.node (own k) (octets k) (lengths k) (asked k) r ready (Left (Next k request copy)) b (hand_refused _ b)
      (λ z o carries. by_rank z o carries (eqb r 0) refl)
    where
      by_rank : (z : ℕ) (o : List ℕ) → Carries h.node (own k) (octets k) (lengths k) r (take z o) → (q : Bool) → eqb r 0 ≡ q
          → Next k request copy (Done z 0) o (next_out (own k) r) (octets k) (lengths k)
      by_rank z o carries true q =
          let e = eqb-true r 0 q in
          subst (λ (r : ℕ). Next k request copy (Done z 0) o (next_out (own k) r) (octets k) (lengths k)) (sym e)
          (hand_single z o (subst (λ (r : ℕ). Carries h.node (own k) (octets k) (lengths k) r (take z o)) e carries))
      by_rank z o carries false q = hand_data r ready (eqb-false r 0 q) z o carries

  pub host_hands : Seen (Next k request copy) h.index (served t mem lens lines (NextPacket h.node) u b)
  host_hands =
      own_cases (seeking sought.Ready) (next_for h.node) t mem lens lines b (shapes (seeking sought.Ready) (next_for h.node) b (next_keeps h.node b)) h.index (own_below k)
      (Next k request copy)
      (λ why. hand_refused why b)
      (λ j there apart at g.
      hand_elsewhere j there apart at (rank_in (choice (seeking sought.Ready) lines t).grade) (given_waits j _ (record_at t j) _ _ g) (given_ready j _ (record_at t j) _ _ g))
      (λ at g. hand_own (rank_in (choice (seeking sought.Ready) lines t).grade) (given_ready h.index _ (own k) _ _ g))
