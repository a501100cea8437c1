-- Data is refused with 8 in OPEN alone, near the start, where there is no slot.
-- Assumes nothing.
use mathlib.Core.Path.{◌≡◌, sym, ap, subst}
use mathlib.Core.Bool.{true}
use mathlib.Core.List.{List}
use Prim.Native.Nat.{ℕ, ◌-◌, ◌<◌}
use native.Mathlib.Omega.{arith}
use borrow.Author.Tests.{ltb-true, eqb-true, eqb-false}
use lib.Dec.{ltb, leb, eqb}
use lib.ListN.{length}
use Rattle.laws.proofs.Choice.{either, either_way, by_test}
use Rattle.packet.specs.declared.kinds.Kind as packets
use Rattle.packet.specs.Kinds.{kind_of}
use Rattle.std.specs.Prelude.{Result, Ok, Err}
use Rattle.packet.specs.declared.reading.Found.{Found}
use Rattle.packet.specs.declared.reading.ReadError.{ReadError}
use Rattle.packet.specs.declared.reading.ReadError.TheVariants as read
use Rattle.packet.specs.Layout.{least, fields_at, length_at, payload_in}
use Rattle.packet.specs.Reading.{read_of}
use Rattle.walks.specs.Serving.{Worked}
use Rattle.channel.specs.declared.record.Node.{Node}
use Rattle.channel.specs.declared.record.Channel.{Channel}
use Rattle.channel.specs.declared.step.Stepped.{Stepped}
use Rattle.channel.specs.Record as state
use Rattle.channel.specs.Answers.{number_of, refusal_number}
use Rattle.receiver_data.specs.declared.sorting.Sort.{Sort}
use Rattle.receiver_data.specs.declared.sorting.Sort.TheVariants.{New, Held, Behind, Other}
use Rattle.receiver_data.specs.Sorting.{distance, no_room, is_held, sort_at}
use Rattle.receiver_data.specs.Data.{data_by, away_of, data_step}
use Rattle.ends.proofs.ReceiverCases.{accept_cases}
use Rattle.table.specs.declared.looking.Look.{Look}
use Rattle.table.specs.Looking.{missing}
use Rattle.table.specs.Serving.{record_at, stored}
use Rattle.arrivals.specs.Arriving.{arrive_as, arrive_by, arrival_for}
use Rattle.arrivals.specs.Finding.{is_ours, look_by, look_of, prefix_read}
use Rattle.arrivals.specs.Data.{reply_length, unfit}
use Rattle.keeps.specs.Keeping.{Given}
use Rattle.keeps.proofs.Serving.{serve_cases}
use Rattle.protocol.specs.Sending.{Sender}
use Rattle.protocol.specs.Receiving.{Receiver}
use Rattle.delivery.specs.Calls.{End, Kind, arrives, Request, channel_of, called_by, called}
use Rattle.delivery.specs.History.{Event, is, names, IsData, is_free}
use Rattle.delivery.proofs.Own.{View, Seen}
use Rattle.delivery.proofs.Nodes.{end_with}
use Rattle.delivery.proofs.Packets.{named_is, same_rivals}
use Rattle.delivery.proofs.Replies.{arrival_framed}
use Rattle.delivery.proofs.SubscriberEnd.{Stage}
use Rattle.room.proofs.Says.{alone_here}

-- Data that was refused with 8 by the record c
pub record Full (c : Channel) (u : List ℕ) : Type 0 where
  pub opened : c.phase.state ≡ state.opened
  pub near : distance (fields_at u).number c.window.start < c.limits.window
  pub full : no_room c.limits c.window (distance (fields_at u).number c.window.start) ≡ true

-- what finds no channel is not refused so
look_other : (node : Node) (u : List ℕ) (room : ℕ) → refusal_number (missing (look_of node u room).sought) ≡ 8 → ⊥
unfolding look_of
look_other node u room = either Otherwise (ltb room least) _ _ (λ e. omega (arith, e)) (by (read_of u))
  where
    Otherwise : Look → Type 0
    Otherwise k = refusal_number (missing k.sought) ≡ 8 → ⊥

    by : (r : Result Found ReadError) → Otherwise (look_by node u r)
    by (Ok r) = either Otherwise (is_ours node r.fields) _ _ (λ e. omega (arith, e)) (λ e. omega (arith, e))
    by (Err read.Short) = λ e. omega (arith, e)
    by (Err read.Damaged) = λ e. omega (arith, e)
    by (Err read.Lacking) = λ e. omega (arith, e)
    by (Err read.Strange) = λ e. omega (arith, e)

-- the record does it: OPEN, with a new segment of the window for which there is no slot
module _ (c : Channel) (u : List ℕ) where
  abbrev away : ℕ
  away = away_of c (fields_at u).number

  abbrev Fills : Stepped → Type 0
  Fills s = number_of s.answer ≡ 8 → Full c u

  new_full : (flags : ℕ) → c.phase.state ≡ state.opened → away < c.limits.window → Fills (data_by New c away flags)
  new_full flags now near =
      by_test Fills (no_room c.limits c.window away) _ _ (λ e _. record { opened = now; near = near; full = e })
      (λ _. accept_cases c _ flags Fills (λ q. absurd (omega (arith, q))) (λ q. absurd (omega (arith, q))))

  data_full : (flags : ℕ) → Fills (data_step c (fields_at u).number flags)
  unfolding data_step sort_at
  data_full flags =
      by_test Fills (eqb c.phase.state state.opened) _ _
      (λ now.
      by_test Sorted (ltb away c.limits.window) _ _
      (λ near. either Sorted (is_held c.limits c.window c.marks away) Held New (λ q. absurd (omega (arith, q))) (new_full flags (eqb-true _ _ now) (ltb-true _ _ near)))
      (λ _. either Sorted (leb (256 - c.limits.window) away) Behind Other (λ q. absurd (omega (arith, q))) (λ q. absurd (omega (arith, q)))))
      (λ _ q. absurd (omega (arith, q)))
    where
      Sorted : Sort → Type 0
      Sorted k = Fills (data_by k c away flags)

  arrival_full : (node : Node) (rank : ℕ) (m l b : List ℕ) → IsData u → number_of (arrival_for node u c rank m l b).made.answer ≡ 8 → Full c u
  unfolding arrival_for arrive_by
  arrival_full node rank m l b kind =
      either Worn (ltb (length b) (reply_length c (kind_of (fields_at u).kind) (length_at u))) _ _ (λ q. absurd (omega (arith, q)))
      (either Worn (unfit c (fields_at u) (length_at u)) _ _ (λ q. absurd (omega (arith, q)))
      (subst (λ (k : packets.Kind). Worn (arrive_as k node (fields_at u) (payload_in u) c rank m l b)) (sym kind) (data_full (fields_at u).flags)))
    where
      Worn : Worked Stepped → Type 0
      Worn v = number_of v.made.answer ≡ 8 → Full c u

module _ {h s : End} {past : List Event} {x : Sender} {y : Receiver} {t : List Channel} {mem lens lines : List ℕ} {n : ℕ} (w : Stage h s past x y t mem lens lines n)
    (r : Request) (copy : ℕ) where
  -- what is to be shown of a call, with this answer
  abbrev pub Filled : View
  Filled a o c m l = names s r.octets ≡ true → IsData r.octets → number_of a ≡ 8 → Full (record_at t s.index) r.octets

module _ {h s : End} {past : List Event} {x : Sender} {y : Receiver} {t : List Channel} {mem lens lines : List ℕ} {n : ℕ} (w : Stage h s past x y t mem lens lines n)
    (r : Request) (copy : ℕ) where
  abbrev looked : Look
  looked = look_of s.node r.octets (length r.buffer)

  -- it is the record that the Data is for
  found_full : (j : ℕ) → j < length t → (rank : ℕ) (m l : List ℕ) → Given looked j rank (record_at t j) m l
      → names s r.octets ≡ true → IsData r.octets → number_of (arrival_for s.node r.octets (record_at t j) rank m l r.buffer).made.answer ≡ 8
      → Full (record_at t s.index) r.octets
  found_full j there rank m l g named kind q =
      let u = r.octets in
      either_way (eqb j s.index)
      (λ e. subst (λ (k : ℕ). Full (record_at t k) u) (eqb-true _ _ e) (arrival_full (record_at t j) u s.node rank m l r.buffer kind q))
      (λ e.
      absurd
      (alone_here w r copy j there (eqb-false _ _ e)
      (same_rivals (record_at t j).addresses (channel_of s).addresses (fields_at u) (length_at u) (prefix_read u) (ap is_free kind)
      (arrival_framed s.node u r.buffer j rank (record_at t j) m l g).ours (named_is s u named).same)))

  arrival_filled : Seen (Filled w r copy) s.index (called_by arrives (end_with s t mem lens lines n) r)
  unfolding stored
  arrival_filled =
      serve_cases looked (arrival_for s.node r.octets) t mem lens lines r.buffer (Seen (Filled w r copy) s.index)
      (λ named kind q. absurd (omega (arith, q)))
      (λ named kind q. absurd (look_other s.node r.octets (length r.buffer) q))
      (λ lawful there g. found_full _ there _ _ _ g)

  pub filled : r.kind ≡ arrives → Seen (Filled w r copy) s.index (called (end_with s t mem lens lines n) r)
  filled is = subst (λ (k : Kind). Seen (Filled w r copy) s.index (called_by k (end_with s t mem lens lines n) r)) (sym is) arrival_filled
