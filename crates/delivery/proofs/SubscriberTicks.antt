-- A tick at the subscriber: a move of its record to a later phase, or of its Heartbeat, or nothing.
-- Assumes nothing.
use mathlib.Core.Path.{refl, sym, ap, subst}
use mathlib.Core.Bool.{true≢false}
use mathlib.Core.List.{List, []}
use Prim.Native.Nat.{ℕ}
use Rattle.channel.specs.declared.record.Channel.{Channel}
use Rattle.channel.specs.declared.answer.Answer.TheVariants.{Refused}
use Rattle.channel.specs.declared.answer.Refusal.TheVariants as refusal
use Rattle.receiver.specs.Receiving.{tick_step}
use Rattle.table.specs.Serving.{record_at, own_mem, own_lens}
use Rattle.channel.specs.declared.step.Ticked.{Ticked}
use Rattle.ticks.proofs.TickLaws as steps
use Rattle.ticks.specs.Ticks.{ticked}
use Rattle.protocol.specs.Sending.{Sender}
use Rattle.protocol.specs.Receiving.{Receiver}
use Rattle.means.proofs.ReceiverControl.{tick_receives}
use Rattle.delivery.specs.Calls.{End, ticks, Request, called_by}
use Rattle.delivery.specs.History.{Event}
use Rattle.delivery.proofs.Own.{Seen}
use Rattle.delivery.proofs.Nodes.{end_with}
use Rattle.delivery.proofs.Ticked.{tick_seen}
use Rattle.delivery.proofs.SubscriberEnd.{Stage, below, receiving, not_sending, asked, Next, quiet, moves_next}

module _ {h s : End} {past : List Event} {x : Sender} {y : Receiver} {t : List Channel} {mem lens lines : List ℕ} {n : ℕ} (w : Stage h s past x y t mem lens lines n)
    (channel : ℕ) (octets buffer : List ℕ) (copy : ℕ) where
  abbrev c : Channel
  c = record_at t s.index

  abbrev m : List ℕ
  m = own_mem t s.index mem

  abbrev l : List ℕ
  l = own_lens t s.index lens

  abbrev request : Request
  request = record { kind = ticks; channel = channel; octets = octets; buffer = buffer }

  pub subscriber_ticks : Seen (Next w request copy) s.index (called_by ticks (end_with s t mem lens lines n) request)
  subscriber_ticks =
      tick_seen (Next w request copy) t mem lens lines s.index (below w)
      (quiet w request copy (Refused refusal.Settings) [] refl refl (λ packet q. absurd (true≢false (sym q))))
      (subst (λ (k : Channel). Next w request copy (ticked t mem lens lines).answer [] k m l) (sym (ap (λ (k : Ticked). k.channel) (steps.tick_receives c (not_sending w))))
      (moves_next w request copy (ticked t mem lens lines).answer [] refl refl (λ packet q. absurd (true≢false (sym q)))
      (tick_step c).channel (tick_receives c m l y (asked w) (receiving w) w.now.means)))
