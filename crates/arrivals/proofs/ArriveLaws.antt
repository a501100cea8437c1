-- Laws of an arrival: what its step asks of a packet that was found a channel, and one law for each case of that step.
-- Assumes nothing.
use mathlib.Core.Path.{◌≡◌, sym, ap, ap₂, ◌∙◌, subst}
use mathlib.Core.Bool.{true, false}
use mathlib.Core.List.{List, []}
use Prim.Native.Nat.{ℕ, ◌+◌, ◌-◌, ◌≤◌, ◌<◌}
use native.Mathlib.Nat.{lt_irrefl}
use borrow.Author.Tests.{lt-ltb, le-ltb}
use lib.ListN.{length, take, drop, length-drop}
use lib.Seq.{length-take-le}
use native.Mathlib.Omega.{arith}
use Rattle.laws.proofs.Choice.{either_way, passed_by}
use Rattle.packet.specs.declared.fields.Fields.{Fields}
use Rattle.packet.specs.declared.kinds.Kind.{Kind}
use Rattle.packet.specs.Kinds.{kind_of}
use Rattle.packet.specs.Layout.{payload_at, whole_length, fields_at, prefix_at, length_at, payload_in}
use Rattle.packet.proofs.Tests.{whole, sound}
use Rattle.walks.specs.Serving.{Worked, works}
use Rattle.channel.specs.declared.record.Addresses.{Addresses}
use Rattle.channel.specs.declared.record.Prefix.{Prefix}
use Rattle.channel.specs.declared.record.Node.{Node}
use Rattle.channel.specs.declared.record.Channel.{Channel}
use Rattle.channel.specs.declared.answer.Refusal.TheVariants as refusal
use Rattle.channel.specs.declared.step.Stepped.{Stepped}
use Rattle.channel.specs.Steps.{refusing}
use Rattle.table.specs.declared.looking.Look.{Look}
use Rattle.table.specs.declared.looking.Sought.{Sought}
use Rattle.table.specs.declared.looking.Sought.TheVariants.{Packet}
use Rattle.table.specs.declared.deciding.Decision.{Decision}
use Rattle.table.specs.Looking.{same, addressed, graded_by, graded}
use Rattle.table.specs.Waiting.{rank_in}
use Rattle.table.specs.Surveying.{mine, mine_lens, stepping}
use Rattle.table.proofs.Parts.{quiet}
use Rattle.arrivals.specs.Finding.{look_of}
use Rattle.arrivals.proofs.FindLaws.{found, found_packet}
use Rattle.arrivals.specs.Data.{reply_length, unfit}
use Rattle.arrivals.specs.Arriving.{arrive_as, arrive_by, arrival_for, Framed, Carried}

-- ---- what is looked for

-- a record that suits a packet has its addresses
addressed_is : (f : Fields) (x : ℕ) (q : Prefix) (a : Addresses) → addressed f x q a < 48 → same a f x q ≡ true
addressed_is f x q a h =
    either_way (same a f x q) (λ e. e) (λ e. absurd (lt_irrefl 48 (subst (λ (k : ℕ). k < 48) (passed_by (same a f x q) 0 48 e) h)))

-- an arrival that was found a channel looks for its packet
sought_is : (node : Node) (s : List ℕ) (room : ℕ) (lines : List ℕ) (at : ℕ) (c : Channel) (look : Look) → look ≡ look_of node s room
    → graded look lines at c < 48 → look ≡ found s
sought_is node s room lines at c look e h = e ∙ (found_packet node s room lines at c (subst (λ (l : Look). graded l lines at c < 48) e h)).3

-- what the step asks of the packet
pub framed : (node : Node) (s out lines : List ℕ) (at : ℕ) (c : Channel) (look : Look) (f : Fields) (start x : ℕ)
    → look ≡ look_of node s (length out) → graded look lines at c < 48 → look.sought ≡ Packet f start x → Framed c f start x s out
framed node s out lines at c look f start x e h p =
    let q = found_packet node s (length out) lines at c (subst (λ (l : Look). graded l lines at c < 48) e h) in
    let is = sought_is node s (length out) lines at c look e h in
    let same_packet : Packet f start x ≡ Packet (fields_at s) (payload_at (prefix_at s)) (length_at s) = sym p ∙ ap (λ (l : Look). l.sought) is in
    let ef : f ≡ fields_at s = cc in
    let es : start ≡ payload_at (prefix_at s) = cc in
    let ex : x ≡ length_at s = cc in
    let suits = addressed_is f x look.prefix c.addresses (subst (λ (l : Sought). graded_by l look.prefix lines at c < 48) p h) in
    record {
      ours = subst (λ (l : Look). same c.addresses f x l.prefix ≡ true) is suits;
      fields = ef;
      start = es;
      count = ex;
      whole = ap (whole_length (prefix_at s)) ex ∙ sym (whole s q.1.short);
      flags = subst (λ (k : Fields). k.flags < 4) (sym ef) (sound (fields_at s) (prefix_at s) (length_at s) q.1.lacking q.1.strange).flags;
      room = q.0;
    }

-- the payload lies in the packet, as the fields say
module _ (c : Channel) (f : Fields) (start x : ℕ) (s out : List ℕ) (g : Framed c f start x s out) where
  pub payload_inside : start + x ≤ length s
  payload_inside = omega (arith, g.start, g.whole)

  cut_is : take (start + x - start) (drop start s) ≡ payload_in s
  cut_is = ap₂ (λ (n at : ℕ). take n (drop at s)) (omega (arith, g.count)) g.start

  cut_length : length (take (start + x - start) (drop start s)) ≡ x
  cut_length = length-take-le (start + x - start) (drop start s) (omega (arith, length-drop start s, g.start, g.whole)) ∙ omega arith

  pub carried : Carried c f (take (start + x - start) (drop start s)) out
  carried = record { packet = s; from = start; framed = subst (λ (n : ℕ). Framed c f start n s out) (sym cut_length) g }

  -- the arrival's step, by the fields and the payload that were read
  pub arrival_by : (node : Node) (d : Decision) (mem lens : List ℕ)
      → stepping (arrive_by node f (length (take (start + x - start) (drop start s))) (take (start + x - start) (drop start s))) c d mem lens out ≡ stepping (arrival_for node s) c d mem lens out
  unfolding arrival_for
  arrival_by node d mem lens =
      ap₂ (λ (n : ℕ) (p : List ℕ). stepping (arrive_by node f n p) c d mem lens out) (cut_length ∙ g.count) cut_is
      ∙ ap (λ (h : Fields). stepping (arrive_by node h (length_at s) (payload_in s)) c d mem lens out) g.fields

-- no arrival looks for anything else
pub packet_sought : (node : Node) (s : List ℕ) (room : ℕ) (lines : List ℕ) (at : ℕ) (c : Channel) (look : Look) → look ≡ look_of node s room
    → graded look lines at c < 48 → look.sought ≡ Packet (fields_at s) (payload_at (prefix_at s)) (length_at s)
packet_sought node s room lines at c look e h = ap (λ (l : Look). l.sought) (sought_is node s room lines at c look e h)

-- ---- one law for each test, and one for all kinds

module _ (node : Node) (f : Fields) (x : ℕ) (p : List ℕ) (c : Channel) (rank : ℕ) (mem lens out : List ℕ) where
  pub by_small : (k : Kind) → kind_of f.kind ≡ k → length out < reply_length c k x
      → arrive_by node f x p c rank mem lens out ≡ works (refusing c (refusal.Small (reply_length c k x))) mem lens out
  unfolding arrive_by
  by_small k e h = rw (e, lt-ltb (length out) (reply_length c k x) h)

  module _ (room : reply_length c (kind_of f.kind) x ≤ length out) where
    pub by_unfit : unfit c f x ≡ true → arrive_by node f x p c rank mem lens out ≡ works (refusing c refusal.Strange) mem lens out
    unfolding arrive_by
    by_unfit e = simp (le-ltb (length out) (reply_length c (kind_of f.kind) x) room, e)

    pub by_kind : unfit c f x ≡ false → (k : Kind) → kind_of f.kind ≡ k → arrive_by node f x p c rank mem lens out ≡ arrive_as k node f p c rank mem lens out
    unfolding arrive_by
    by_kind fit k e =
        passed_by _ _ _ (le-ltb (length out) (reply_length c (kind_of f.kind) x) room)
        ∙ passed_by (unfit c f x) _ _ fit
        ∙ ap (λ (z : Kind). arrive_as z node f p c rank mem lens out) e

-- a step by the packet's kind that leaves the memory and the lengths
pub quiet_kind : (node : Node) (f : Fields) (p : List ℕ) (c : Channel) (d : Decision) (mem lens out : List ℕ) (kind k : Kind) → kind ≡ k
    → (r : Stepped) (o : List ℕ)
    → ((m l : List ℕ)
    → arrive_as k node f p c (rank_in d.spot.grade) m l out
    ≡ works (arrive_as k node f p c (rank_in d.spot.grade) [] [] out).made m l (arrive_as k node f p c (rank_in d.spot.grade) [] [] out).out)
    → works r [] [] o ≡ arrive_as k node f p c (rank_in d.spot.grade) [] [] out
    → works r mem lens o ≡ stepping (arrive_as kind node f p) c d mem lens out
quiet_kind node f p c d mem lens out kind k is r o leaves e =
    ap (λ (w : Worked Stepped). works w.made mem lens w.out) e
    ∙ quiet (arrive_as k node f p) c d mem lens out _ _ (leaves (mine c d mem) (mine_lens c d lens))
    ∙ sym (ap (λ (z : Kind). stepping (arrive_as z node f p) c d mem lens out) is)
