-- 'Past the test for 13, an arrival or request reads and changes its own channel alone'; 'A tick treats each channel alone. The call for a packet
-- looks at all channels and changes the one it serves' (document 01, Answer numbers): of each public call.
-- Assumes nothing.
use mathlib.Core.Path.{◌≡◌, refl, ap, ap₂, ◌∙◌, subst}
use mathlib.Core.Bool.{Bool, true, false}
use mathlib.Core.List.{List, [], ◌∷◌, map}
use Prim.Native.Nat.{ℕ, zero, suc, ◌<◌}
use native.Mathlib.Nat.{not-suc-le-zero, le_of_suc-le-suc}
use lib.Dec.{ltb, eqb}
use lib.ListN.{length, set, take, drop}
use Rattle.std.specs.Prelude.{Result, Ok, Err, if◌then◌else◌}
use Rattle.laws.proofs.Choice.{chosen}
use Rattle.packet.specs.declared.reading.Found.{Found}
use Rattle.packet.specs.declared.reading.ReadError.{ReadError}
use Rattle.packet.specs.Reading.{read_of}
use Rattle.walks.specs.Serving.{Called, Changed, works, leaves}
use Rattle.channel.specs.declared.record.Node.{Node}
use Rattle.channel.specs.declared.record.Channel.{Channel}
use Rattle.channel.specs.declared.answer.Answer.{Answer}
use Rattle.channel.specs.declared.answer.Refusal.TheVariants as refusal
use Rattle.channel.specs.declared.step.Stepped.{Stepped}
use Rattle.channel.specs.Answers.{refusal_of}
use Rattle.channel.specs.Record.{sends}
use Rattle.channel.specs.Steps.{refusing}
use Rattle.channel.specs.Pairs.{filed}
use Rattle.sender_units.specs.Transfer.{transfer_step, transfer_mem, transfer_lens}
use Rattle.ends.proofs.KeepsTransfer.{transfer_sized}
use Rattle.ends.proofs.SenderFixed.{transfer_fixed}
use Rattle.packet.specs.Layout.{least, prefix_from}
use Rattle.channel.specs.declared.record.Prefix.{Prefix}
use Rattle.channel.specs.Prefixes.{prefix_with}
use Rattle.table.specs.declared.looking.Look.{Look}
use Rattle.table.specs.declared.looking.Sought.TheVariants.{Index, Packet, Ready, Nobody}
use Rattle.table.specs.Looking.{seeking}
use Rattle.table.specs.Looking.{chosen as choice}
use Rattle.table.specs.Waiting.{rank_in, moved}
use Rattle.table.specs.Lent.{area_of, slot_at, octet_at, passes}
use Rattle.table.specs.Serving.{record_at, Step, alone, stored, serve_one, table_of}
use Rattle.requests.specs.Requests.{opened_by, closed_by, transfer_for, take_for, reclaim_for}
use Rattle.requests.specs.Handing.{next_for}
use Rattle.arrivals.specs.Finding.{is_ours, look_by, look_of}
use Rattle.arrivals.specs.Arriving.{arrival_for}
use Rattle.table.proofs.Parts.{laid_own}
use Rattle.ticks.specs.Ticks.{tick_of, ticked}
use Rattle.node.specs.Calls.{open_call, close_call, transfer_call, take_call, reclaim_call, next_packet_call, arrival_call}
use Rattle.keeps.specs.Keeping.{Keeps, staying, OthersStay, SameFor, OwnChannelAlone}
use Rattle.keeps.proofs.Serving.{served_at, serve_cases}
use Rattle.keeps.proofs.StepsKeep.{open_keeps, close_keeps, take_keeps, reclaim_keeps, next_keeps, arrival_keeps}
use Rattle.keeps.proofs.Alone.{Shaped, kept_shaped, Shapes, index_served_lem, others_stay, ByAddresses, index_by_addresses, packet_by_addresses, nobody_by_addresses, own_channel_alone}

-- ---- the steps keep limits and sizes

pub shapes : (look : Look) (step : Step) (out : List ℕ) → Keeps look step out → Shapes look step out
shapes look step out keeps at rank c mem lens g = kept_shaped c (step c rank mem lens out) (keeps at rank c mem lens g)

pub transfer_shapes : (look : Look) (unit out : List ℕ) → Shapes look (transfer_for unit) out
unfolding transfer_for
transfer_shapes look unit out at rank c mem lens g = go (eqb c.addresses.direction sends)
  where
    u : List ℕ
    u = filed c.limits unit

    go : (b : Bool)
        → Shaped c
        (if b then works (transfer_step c (length u)) (transfer_mem c u mem) (transfer_lens c u lens) out
        else works (refusing c refusal.State) mem lens out)
    go true = record { limits = (transfer_fixed c u).1; sized = transfer_sized c u mem lens g.standing g.sized }
    go false = record { limits = refl; sized = g.sized }

-- ---- directives leave memory and lengths

pub alone_called : (look : Look) (step : Channel → Stepped) (t : List Channel) (mem lens lines : List ℕ)
    → serve_one look (alone step) t mem lens lines [] ≡ staying (table_of (serve_one look (alone step) t mem lens lines [])) mem lens
unfolding stored
alone_called look step t mem lens lines =
    serve_cases look (alone step) t mem lens lines [] (λ (g : Called Answer Channel). g ≡ staying (table_of g) mem lens) refl refl
    (λ h below g.
    let i = served_at look (alone step) t mem lens lines [] in
    ap₂ (λ (m l : List ℕ). leaves (step (record_at t i)).answer (set t i (step (record_at t i)).channel) m l (moved look.sought (rank_in (choice look lines t).grade) i (step (record_at t i)) lines) [])
    (laid_own mem (octet_at t i) (area_of (record_at t i).limits)) (laid_own lens (slot_at t i) (record_at t i).limits.slots))

-- ---- what an arrival looks for is told by the addresses

arrival_by_addresses : (node : Node) (s : List ℕ) (room : ℕ) → ByAddresses (look_of node s room)
unfolding look_of
arrival_by_addresses node s room = by_room (ltb room least) (read_of s)
  where
    by_read : (r : Result Found ReadError) → ByAddresses (look_by node s r)
    by_read (Ok r) = by_ours (is_ours node r.fields)
      where
        q : Prefix
        q = prefix_with r.prefix (take r.prefix (drop prefix_from s))

        by_ours : (b : Bool) → ByAddresses (if b then record { sought = Packet r.fields r.start r.length; prefix = q } else seeking (Nobody refusal.Strange))
        by_ours true = packet_by_addresses r.fields q r.start r.length
        by_ours false = nobody_by_addresses refusal.Strange
    by_read (Err why) = nobody_by_addresses (refusal_of why)

    by_room : (b : Bool) (r : Result Found ReadError) → ByAddresses (if b then seeking (Nobody (refusal.Small least)) else look_by node s r)
    by_room true r = nobody_by_addresses (refusal.Small least)
    by_room false r = by_read r

-- ---- each call changes its own channel alone

module _ (t : List Channel) (mem lens lines : List ℕ) where
  index_stays : (index : ℕ) (step : Step) (out : List ℕ) → Shapes (seeking (Index index)) step out → OthersStay t mem lens index (serve_one (seeking (Index index)) step t mem lens lines out)
  index_stays index step out s =
      others_stay (seeking (Index index)) step t mem lens lines out s index (λ g. index_served_lem index _ _ _ _ _ g)

  -- the channel that the packet's head names
  pub arrival_others_stay : (node : Node) (packet reply : List ℕ)
      → OthersStay t mem lens (choice (look_of node packet (length reply)) lines t).at (arrival_call t mem lens lines node packet reply)
  arrival_others_stay node packet reply =
      let look = look_of node packet (length reply) in
      others_stay look (arrival_for node packet) t mem lens lines reply (shapes look (arrival_for node packet) reply (arrival_keeps node packet reply)) (choice look lines t).at (λ g. refl)

  -- the channel that is served
  pub next_packet_others_stay : (node : Node) (out : List ℕ) → OthersStay t mem lens (choice (seeking Ready) lines t).at (next_packet_call t mem lens lines node out)
  next_packet_others_stay node out =
      others_stay (seeking Ready) (next_for node) t mem lens lines out (shapes (seeking Ready) (next_for node) out (next_keeps node out)) (choice (seeking Ready) lines t).at (λ g. refl)

  pub open_others_stay : (index : ℕ) → OthersStay t mem lens index (staying (open_call t mem lens lines index) mem lens)
  open_others_stay index =
      subst (OthersStay t mem lens index) (alone_called (seeking (Index index)) opened_by t mem lens lines)
      (index_stays index (alone opened_by) [] (shapes (seeking (Index index)) (alone opened_by) [] (open_keeps (seeking (Index index)) [])))

  pub close_others_stay : (index : ℕ) → OthersStay t mem lens index (staying (close_call t mem lens lines index) mem lens)
  close_others_stay index =
      subst (OthersStay t mem lens index) (alone_called (seeking (Index index)) closed_by t mem lens lines)
      (index_stays index (alone closed_by) [] (shapes (seeking (Index index)) (alone closed_by) [] (close_keeps (seeking (Index index)) [])))

  pub transfer_others_stay : (index : ℕ) (unit : List ℕ) → OthersStay t mem lens index (transfer_call t mem lens lines index unit)
  transfer_others_stay index unit = index_stays index (transfer_for unit) [] (transfer_shapes (seeking (Index index)) unit [])

  pub take_others_stay : (index : ℕ) (out : List ℕ) → OthersStay t mem lens index (take_call t mem lens lines index out)
  take_others_stay index out = index_stays index take_for out (shapes (seeking (Index index)) take_for out (take_keeps (seeking (Index index)) out))

  pub reclaim_others_stay : (index : ℕ) (out : List ℕ) → OthersStay t mem lens index (reclaim_call t mem lens lines index out)
  reclaim_others_stay index out = index_stays index reclaim_for out (shapes (seeking (Index index)) reclaim_for out (reclaim_keeps (seeking (Index index)) out))

  -- ---- and reads its own channel alone

  index_alone : (index : ℕ) (step : Step) (out : List ℕ) → Shapes (seeking (Index index)) step out
      → OwnChannelAlone (λ s m l li. serve_one (seeking (Index index)) step s m l li out) index t mem lens lines
  index_alone index step out s =
      own_channel_alone (seeking (Index index)) step out s (index_by_addresses index) t mem lens lines index (λ g. index_served_lem index _ _ _ _ _ g)

  -- a directive, of which the table alone is told
  order_alone : (index : ℕ) (step : Channel → Stepped) → Keeps (seeking (Index index)) (alone step) []
      → OwnChannelAlone (λ s m l li. staying (table_of (serve_one (seeking (Index index)) (alone step) s m l li [])) m l) index t mem lens lines
  order_alone index step keeps t2 mem2 lens2 lines2 e e2 same own =
      subst (λ (g : Called Answer Channel). SameFor index g (staying (table_of (serve_one (seeking (Index index)) (alone step) t2 mem2 lens2 lines2 [])) mem2 lens2))
      (alone_called (seeking (Index index)) step t mem lens lines)
      (subst (λ (g : Called Answer Channel). SameFor index (serve_one (seeking (Index index)) (alone step) t mem lens lines []) g)
      (alone_called (seeking (Index index)) step t2 mem2 lens2 lines2)
      (index_alone index (alone step) [] (shapes (seeking (Index index)) (alone step) [] keeps) t2 mem2 lens2 lines2 e e2 same own))

  pub arrival_own_channel_alone : (node : Node) (packet reply : List ℕ)
      → OwnChannelAlone (λ s m l li. arrival_call s m l li node packet reply) (choice (look_of node packet (length reply)) lines t).at t mem lens lines
  arrival_own_channel_alone node packet reply =
      let look = look_of node packet (length reply) in
      own_channel_alone look (arrival_for node packet) reply (shapes look (arrival_for node packet) reply (arrival_keeps node packet reply)) (arrival_by_addresses node packet (length reply)) t mem lens lines (choice look lines t).at (λ g. refl)

  pub open_own_channel_alone : (index : ℕ) → OwnChannelAlone (λ s m l li. staying (open_call s m l li index) m l) index t mem lens lines
  open_own_channel_alone index = order_alone index opened_by (open_keeps (seeking (Index index)) [])

  pub close_own_channel_alone : (index : ℕ) → OwnChannelAlone (λ s m l li. staying (close_call s m l li index) m l) index t mem lens lines
  close_own_channel_alone index = order_alone index closed_by (close_keeps (seeking (Index index)) [])

  pub transfer_own_channel_alone : (index : ℕ) (unit : List ℕ) → OwnChannelAlone (λ s m l li. transfer_call s m l li index unit) index t mem lens lines
  transfer_own_channel_alone index unit = index_alone index (transfer_for unit) [] (transfer_shapes (seeking (Index index)) unit [])

  pub take_own_channel_alone : (index : ℕ) (out : List ℕ) → OwnChannelAlone (λ s m l li. take_call s m l li index out) index t mem lens lines
  take_own_channel_alone index out = index_alone index take_for out (shapes (seeking (Index index)) take_for out (take_keeps (seeking (Index index)) out))

  pub reclaim_own_channel_alone : (index : ℕ) (out : List ℕ) → OwnChannelAlone (λ s m l li. reclaim_call s m l li index out) index t mem lens lines
  reclaim_own_channel_alone index out = index_alone index reclaim_for out (shapes (seeking (Index index)) reclaim_for out (reclaim_keeps (seeking (Index index)) out))

-- ---- a tick treats each channel alone

pub mapped_at : (f : Channel → Channel) (t : List Channel) (i : ℕ) → i < length t → record_at (map f t) i ≡ f (record_at t i)
mapped_at f [] i h = absurd (not-suc-le-zero h)
mapped_at f (c ∷ t) zero h = refl
mapped_at f (c ∷ t) (suc i) h = mapped_at f t i (le_of_suc-le-suc h)

-- the record at i afterwards is the tick of the record at i, whatever the others are
pub tick_alone : (t : List Channel) (mem lens lines : List ℕ) → passes t mem lens lines ≡ true → (i : ℕ) → i < length t
    → record_at (ticked t mem lens lines).table i ≡ tick_of (record_at t i)
unfolding ticked
tick_alone t mem lens lines e i h = ap (λ (g : Changed Answer Channel). record_at g.table i) (chosen (passes t mem lens lines) _ _ e) ∙ mapped_at tick_of t i h
