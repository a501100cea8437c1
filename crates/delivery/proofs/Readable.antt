-- No packet that a call hands out, and no reply, is refused by the reader: of every table, every memory and every buffer.
-- Assumes nothing.
use mathlib.Core.Path.{refl, ap}
use mathlib.Core.List.{List}
use mathlib.Core.Logic.{inl, inr, ⊎_elim}
use Prim.Native.Nat.{ℕ}
use native.Mathlib.Omega.{arith}
use lib.ListN.{length}
use Rattle.packet.specs.Reading.{read_number}
use Rattle.walks.specs.Serving.{Worked}
use Rattle.channel.specs.declared.record.Node.{Node}
use Rattle.channel.specs.declared.record.Channel.{Channel}
use Rattle.channel.specs.declared.step.Stepped.{Stepped}
use Rattle.channel.specs.Asked.{Asked}
use Rattle.table.specs.Waiting.{rank_in}
use Rattle.table.specs.declared.looking.Sought.TheVariants as sought
use Rattle.table.specs.Looking.{seeking}
use Rattle.table.specs.Looking.{chosen as choice}
use Rattle.table.specs.Serving.{record_at, own_mem, own_lens, stored}
use Rattle.requests.specs.Handing.{next_for}
use Rattle.arrivals.specs.Finding.{look_of}
use Rattle.arrivals.specs.Arriving.{arrival_for}
use Rattle.node.specs.Calls.{next_packet_call, arrival_call}
use Rattle.keeps.proofs.Serving.{served_at, serve_cases}
use Rattle.keeps.proofs.StepsKeep.{given_ready}
use Rattle.delivery.specs.Readable.{HandOutRead, ReplyRead}
use Rattle.delivery.proofs.Handed.{hand_cases}
use Rattle.delivery.proofs.Replies.{arrival_wrote}

module _ (t : List Channel) (mem lens lines : List ℕ) (node : Node) (out : List ℕ) where
  pub hand_out_read : HandOutRead (next_packet_call t mem lens lines node out)
  unfolding stored
  hand_out_read =
      serve_cases (seeking sought.Ready) (next_for node) t mem lens lines out HandOutRead (λ e. absurd (omega (arith, e))) (λ e. absurd (omega (arith, e)))
      (λ h below g.
      let i = served_at (seeking sought.Ready) (next_for node) t mem lens lines out in
      let asked : Asked (record_at t i) (own_mem t i mem) (own_lens t i lens) = record { standing = g.standing; sized = g.sized } in
      hand_cases node (record_at t i) (own_mem t i mem) (own_lens t i lens) asked (rank_in (choice (seeking sought.Ready) lines t).grade)
      (given_ready i _ (record_at t i) _ _ g)
      (λ (w : Worked Stepped). HandOutRead (stored sought.Ready t mem lens lines (choice (seeking sought.Ready) lines t) w)) out
      (λ e. absurd (omega (arith, e)))
      (λ n o carries e. ap read_number carries.read))

  pub reply_read : (packet : List ℕ) → ReplyRead (arrival_call t mem lens lines node packet out)
  unfolding stored
  reply_read packet =
      serve_cases (look_of node packet (length out)) (arrival_for node packet) t mem lens lines out ReplyRead (inl refl) (inl refl)
      (λ h below g.
      let i = served_at (look_of node packet (length out)) (arrival_for node packet) t mem lens lines out in
      ⊎_elim (λ e. inl e) (⊎_elim (λ a. inr (ap read_number a.acks.read)) (λ a. inr (ap read_number a.1.read)))
      (arrival_wrote node packet out i (rank_in (choice (look_of node packet (length out)) lines t).grade) (record_at t i) (own_mem t i mem) (own_lens t i lens) g))
