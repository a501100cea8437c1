-- A call at the host keeps what is known of the packets on the link: Data that it hands out, and Data Acks that come, which are not late.
-- Assumes nothing.
use mathlib.Core.Path.{◌≡◌, refl, sym, ap, ap₂, ◌∙◌, subst}
use mathlib.Core.Bool.{Bool, true, false, true≢false, ◌&&◌}
use mathlib.Core.List.{List, [], ◌∷◌, ◌++◌}
use mathlib.Core.Logic.{inl, ⊎_elim}
use Prim.Native.Nat.{ℕ, ◌+◌, ◌≤◌, ◌<◌}
use native.Mathlib.Omega.{arith}
use Rattle.packet.specs.declared.kinds.Kind.TheVariants as kinds
use Rattle.packet.specs.Layout.{fields_at, payload_in}
use Rattle.packet.specs.Kinds.{kind_of}
use Rattle.channel.specs.declared.record.Channel.{Channel}
use Rattle.channel.specs.declared.answer.Answer.{Answer}
use Rattle.table.specs.Serving.{record_at}
use Rattle.protocol.specs.Numbers.{number_at, distance}
use Rattle.protocol.specs.Sending.{Sender, SenderCall, sender_step}
use Rattle.protocol.specs.Receiving.{Receiver}
use Rattle.protocol.proofs.Distances.{near_is}
use Rattle.means.specs.Meaning.{carried}
use Rattle.delivery.specs.Calls.{End, arrives, Request}
use Rattle.delivery.specs.History.{host, subscriber, Event, is, names, binds, IsDataAck, Replied}
use Rattle.delivery.specs.Delivery.{NotLate}
use Rattle.delivery.proofs.Nodes.{end_with}
use Rattle.delivery.proofs.Known.{Back, back_later, InvOf, limits}
use Rattle.delivery.proofs.HostFrame.{host_call, host_event, AckCame}
use Rattle.room.specs.Order.{is_flow, steers, wrote_by, Told, Copied, Brings}
use Rattle.room.proofs.Chains.{Chain, Cut}
use Rattle.room.proofs.Steps.{sender_goes}
use Rattle.room.proofs.Marks.{MarksAt, Marked, sender_marks}
use Rattle.room.proofs.Known.{Leaves, Handed, Awaited}
use Rattle.room.proofs.Link.{bound_kind, binds_named, steers_so, brought, copied_whole, copied_replied, cut_at}

-- what was replied before is replied
back_more : (h s : End) (l older : List Event) (j : ℕ) → Back h s older j → Back h s (l ++ older) j
back_more h s [] older j b = b
back_more h s (e ∷ l) older j b = back_later h s (l ++ older) e j (back_more h s l older j b)

never_true : (b : Bool) → (b ≡ true → ⊥) → b ≡ false
never_true true n = absurd (n refl)
never_true false n = refl

-- ---- a Data Ack that comes is a copy, and not late

module _ (h s : End) (past : List Event) (x : Sender) (y : Receiver) (r : Request) (copy : ℕ) (small : (limits h s).window ≤ 128)
    (queue later : List Event) (brings : Brings (is host arrives (host_call r copy) && steers h r.octets) (Told s copy r.octets) queue later)
    (known : Awaited h s past x y queue) where
  abbrev u : List ℕ
  u = r.octets

  abbrev k : ℕ
  k = (limits h s).window

  abbrev comes : Bool
  comes = is host arrives (host_call r copy) && steers h u

  cut_here : (c : Copied (Told s copy u) queue later) → Cut (Leaves h s) known.older known.now known.hole later c.source c.before
  cut_here c = cut_at (Leaves h s) (Told s copy u) queue later known.older known.now known.hole known.chain c

  -- the start is at most a window past the segment that is answered
  start_near : (c : Copied (Told s copy u) queue later) → names h u ≡ true → IsDataAck u → x.start ≤ copy + k
  start_near c named ack = let w = cut_here c in omega (arith, w.link.0 copy u c.wrote named ack, w.after, known.start)

  pub host_fair : (t : List Channel) (mem lens lines : List ℕ) (n : ℕ) → n ≡ x.start → (record_at t h.index).limits.window ≡ k
      → is host arrives (host_call r copy) ≡ true → binds h u ≡ true → Replied s past copy u × (IsDataAck u → NotLate (end_with h t mem lens lines n) copy)
  host_fair t mem lens lines n counted window_is at binding =
      let p = binds_named h u binding in
      let q = bound_kind (kind_of (fields_at u).kind) p.1 in
      let c = brought (Told s copy u) queue later comes (ap₂ (λ (a b : Bool). a && b) at (steers_so h u (kind_of (fields_at u).kind) refl q.0 p.0)) brings in (
        copied_replied s known.older copy u q.1 known.whole c,
        λ ack. omega (arith, start_near c p.0 ack, counted, window_is, small),
      )

  -- ---- what is known afterwards

  module _ (z : Sender) (call : SenderCall) (stepped : z ≡ (sender_step (limits h s) x call).0) (n told : ℕ) (a : Answer) (o : List ℕ) (came : AckCame h (host_event r copy n told a o) call)
      (within : x.next ≤ x.start + k) (answers : (i : ℕ) → Back h s past i → i < x.next) where
    abbrev e : Event
    e = host_event r copy n told a o

    marked : Marked (limits h s) x call z
    marked = sender_marks (limits h s) x z call stepped

    -- no reply of the subscriber is new
    back_down : (l : List Event) (j : ℕ) → Back h s (e ∷ l) j → Back h s l j
    back_down l j b =
        record { packet = b.packet; replied = ⊎_elim (λ q. absurd (true≢false (sym q.0))) (λ q. q) b.replied; named = b.named; is_ack = b.is_ack }

    -- with so much left of the chain
    next : (older : List Event) (hole : ℕ) → past ≡ later ++ older → Chain (Leaves h s) older known.now hole later
        → x.start ≤ hole
        → ((j : ℕ) → z.acked j ≡ true → Back h s older j)
        → (Back h s older hole → ⊥)
        → Awaited h s (e ∷ past) z y (e ∷ later)
    next older hole whole chain low marks silent =
        record {
          older = older;
          whole = ap (e ∷◌) whole;
          hole = hole;
          now = known.now;
          chain = (
            known.now,
            omega arith,
            (λ i packet w. absurd (true≢false (sym w.0)), λ b. known.still (subst (λ (l : List Event). Back h s l known.now) (sym whole) (back_down (later ++ older) known.now b))),
            chain,
          );
          start = marked.stops hole low (never_true (z.acked hole) (λ q. silent (marks hole q)));
          marks = marks;
          silent = silent;
          still = λ b. known.still (back_down past known.now b);
          now_is = known.now_is;
        }

    -- ---- no packet came that is kept in order: none is marked

    unmarked : (call : SenderCall) → AckCame h e call → comes ≡ false → (j : ℕ) → MarksAt (limits h s) x call j → ⊥
    unmarked (SenderCall.control p) w none j q = q
    unmarked (SenderCall.transfer v) w none j q = q
    unmarked (SenderCall.hand_out i) w none j q = q
    unmarked (SenderCall.ack i v) w none j q =
        true≢false (sym (ap₂ (λ (a b : Bool). a && b) w.0 (steers_so h u kinds.DataAck w.2 refl w.1)) ∙ none)
    unmarked SenderCall.reclaim w none j q = q
    unmarked SenderCall.noise w none j q = q

    without : comes ≡ false → later ≡ queue → Awaited h s (e ∷ past) z y (e ∷ later)
    without none same =
        next known.older known.hole (known.whole ∙ ap (λ (l : List Event). l ++ known.older) (sym same))
        (subst (Chain (Leaves h s) known.older known.now known.hole) (sym same) known.chain) known.start
        (λ j q. ⊎_elim (known.marks j) (λ v. absurd (unmarked call came none j v)) (marked.new j q)) known.silent

    -- ---- one came

    module _ (c : Copied (Told s copy u) queue later) where
      abbrev cuts : Cut (Leaves h s) known.older known.now known.hole later c.source c.before
      cuts = cut_here c

      abbrev rest : List Event
      rest = c.source ∷ (c.before ++ known.older)

      replied_rest : names h u ≡ true → IsDataAck u → Back h s rest copy
      replied_rest named ack =
          record {
            packet = u;
            replied = inl (subst (λ (b : Bool). is subscriber (wrote_by b) c.source.call ≡ true) (ap is_flow ack) c.wrote.0, c.wrote.1, c.wrote.2, c.wrote.3);
            named = named;
            is_ack = ack;
          }

      -- what the Ack marks is the segment that it answers
      marks_copy : (call : SenderCall) → AckCame h e call → (j : ℕ) → MarksAt (limits h s) x call j → Back h s rest j
      marks_copy (SenderCall.control p) w j q = absurd q
      marks_copy (SenderCall.transfer v) w j q = absurd q
      marks_copy (SenderCall.hand_out i) w j q = absurd q
      marks_copy (SenderCall.ack i v) w j q =
          let b = replied_rest w.1 w.2 in
          let ahead : copy < x.start + k
          = omega (arith, answers copy (subst (λ (l : List Event). Back h s l copy) (sym (copied_whole known.older c known.whole)) (back_more h s later rest copy b)), within)
          in
          let number : v ≡ number_at copy = w.4 ∙ ap number_at (sym w.3) in
          let near = subst (λ (m : ℕ). distance m (number_at x.start) < k) number q.0 in
          let is : j ≡ copy
          = q.1 ∙ ap (λ (m : ℕ). x.start + distance m (number_at x.start)) number
          ∙ near_is x.start copy k small ahead (let f = start_near c w.1 w.2 in omega arith) near
          in
          subst (Back h s rest) (sym is) b
      marks_copy SenderCall.reclaim w j q = absurd q
      marks_copy SenderCall.noise w j q = absurd q

      with_one : Awaited h s (e ∷ past) z y (e ∷ later)
      with_one =
          next rest cuts.to (copied_whole known.older c known.whole) cuts.rest (omega (arith, known.start, cuts.after, cuts.rises))
          (λ j q. ⊎_elim (λ v. back_more h s (c.source ∷ c.before) known.older j (known.marks j v)) (marks_copy call came j) (marked.new j q)) cuts.link.1

    pub host_awaited : Awaited h s (e ∷ past) z y (e ∷ later)
    host_awaited = by comes refl brings
      where
        by : (b : Bool) → comes ≡ b → Brings b (Told s copy u) queue later → Awaited h s (e ∷ past) z y (e ∷ later)
        by true q c = with_one c
        by false q c = without q c

-- ---- Data

module _ (h s : End) (past : List Event) (x z : Sender) (y : Receiver) (call : SenderCall) (stepped : z ≡ (sender_step (limits h s) x call).0)
    (r : Request) (copy n told : ℕ) (a : Answer) (o : List ℕ) (counted : n ≡ x.start) (within : x.next ≤ x.start + (limits h s).window)
    (inv : InvOf h s (host_event r copy n told a o ∷ past) z y) where
  pub host_handed : (n2 : ℕ) (queue : List Event) → Handed h s past x y n2 queue → Handed h s (host_event r copy n told a o ∷ past) z y n2 (host_event r copy n told a o ∷ queue)
  host_handed n2 queue known =
      record {
        older = known.older;
        whole = ap (host_event r copy n told a o ∷◌) known.whole;
        got = known.got;
        chain = (
          x.next,
          ⊎_elim (λ q. omega (arith, q)) (λ q. omega (arith, q.next)) (sender_goes (limits h s) x z call stepped).1,
          (
            λ q. omega (arith, counted, within),
            λ i packet sent named kind.
                (inv.link.packets i (carried (fields_at packet).flags (payload_in packet)) (record { packet = packet; handed = inl sent; named = named; is_data_lem = kind; segment = refl })).0,
          ),
          known.chain,
        );
        filed = known.filed;
        counted = known.counted;
      }
