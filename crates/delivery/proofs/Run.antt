-- What is known of a run: it holds at the beginning, and says what demand 3 claims.
-- Assumes nothing.
use mathlib.Core.Path.{refl, sym, ap, ◌∙◌, subst}
use mathlib.Core.List.{List, [], ◌++◌}
use Prim.Native.Nat.{ℕ, suc, ◌≤◌}
use lib.ListN.{take}
use Rattle.channel.specs.declared.record.Channel.{Channel}
use Rattle.channel.proofs.SettingsLaws.{fit_is}
use Rattle.table.specs.Serving.{record_at, own_mem, own_lens}
use Rattle.protocol.specs.Units.{DataUnit}
use Rattle.protocol.specs.Sending.{Sender, fresh_sender}
use Rattle.protocol.specs.Receiving.{Receiver, fresh_receiver}
use Rattle.protocol.proofs.Delivered.{starts, told}
use Rattle.means.proofs.Sends.{fresh_sends}
use Rattle.means.proofs.SenderHeld.{sends_held}
use Rattle.means.proofs.Receives.{fresh_receives}
use Rattle.means.proofs.ReceiverHeld.{receives_held}
use Rattle.delivery.specs.Calls.{End, channel_of}
use Rattle.delivery.specs.History.{Event, accepted, confirmed, reclaimed, taken}
use Rattle.delivery.specs.Delivery.{Fresh, Alike, Delivered}
use Rattle.delivery.proofs.Nodes.{end_with, same_addresses, same_length, own_asked}
use Rattle.delivery.proofs.Known.{Out, Back, limits, InvOf, Numbered, Host, Subscriber, inv_links}

module _ (h s : End) (fresh-h : Fresh h) (fresh-s : Fresh s) (alike : Alike h s) where
  -- what both nodes are lent, and how far their windows are counted on
  pub record Holds (past : List Event) (e f : End) : Type 0 where
    pub sender : Sender
    pub receiver : Receiver
    pub inv : InvOf h s past sender receiver
    pub numbered : Numbered h s past
    pub at_host_end : Host h past e.table e.mem e.lens e.start sender
    pub at_subscriber : Subscriber s past f.table f.mem f.lens f.start receiver

  unfoldable pub begins : Holds [] h s
  begins =
      record {
        sender = fresh_sender;
        receiver = fresh_receiver;
        inv = inv_links (λ i g p. absurd p.handed) (λ i p. absurd p.replied) (λ i p. absurd p) (starts (limits h s));
        numbered = record { sent = λ i packet p. absurd p; back = λ i packet p. absurd p };
        at_host_end =
            record {
              kept = record { stands = fresh-h.stands; wide = fresh-h.wide; settings = (refl, refl) };
              means = fresh_sends (channel_of h) (own_mem h.table h.index h.mem) (own_lens h.table h.index h.lens) fresh-h.state fresh-h.empty;
              counted = fresh-h.start;
              waits = λ q. refl;
            };
        at_subscriber =
            record {
              kept = record { stands = fresh-s.stands; wide = fresh-s.wide; settings = (refl, refl) };
              means = fresh_receives (channel_of s) (own_mem s.table s.index s.mem) (own_lens s.table s.index s.lens) fresh-s.state fresh-s.empty;
              counted = λ q. fresh-s.start;
              waits = λ q. refl;
            };
      }

  -- what it says of deliveries
  pub delivered : (past : List Event) (t : List Channel) (mem lens lines : List ℕ) (n : ℕ) (u : List Channel) (mem2 lens2 lines2 : List ℕ) (m : ℕ)
      → Holds past (end_with h t mem lens lines n) (end_with s u mem2 lens2 lines2 m)
      → Delivered h s (record { past = past; host = end_with h t mem lens lines n; subscriber = end_with s u mem2 lens2 lines2 m })
  delivered past t mem lens lines n u mem2 lens2 lines2 m k =
      let x = k.at_host_end in
      let y = k.at_subscriber in
      let below-h = subst (λ (z : ℕ). suc h.index ≤ z) (sym (same_length h t mem lens x.kept)) fresh-h.below in
      let below-s = subst (λ (z : ℕ). suc s.index ≤ z) (sym (same_length s u mem2 lens2 y.kept)) fresh-s.below in
      let asked-h = own_asked h t mem lens x.kept h.index below-h in
      let asked-s = own_asked s u mem2 lens2 y.kept s.index below-s in
      let own = own_asked h h.table h.mem h.lens begins.at_host_end.kept h.index fresh-h.below in
      let octet : 1 ≤ (limits h s).payload = (fit_is (channel_of h).limits own.standing.fit).octet in
      let a = told (limits h s) octet (accepted h past) (confirmed h past) (reclaimed h past) (taken s past) (Out h s past) (Back h s past) k.sender k.receiver k.inv in
      let wait = receives_held (record_at u s.index) (own_mem u s.index mem2) (own_lens u s.index lens2) k.receiver asked-s (ap (λ a. a.direction) (same_addresses s u mem2 lens2 y.kept s.index) ∙ alike.receives) y.means in
      let hold = sends_held (record_at t h.index) (own_mem t h.index mem) (own_lens t h.index lens) k.sender asked-h (ap (λ a. a.direction) (same_addresses h t mem lens x.kept h.index) ∙ alike.sends) x.means in
      record {
        through = a.through;
        among = a.among;
        in_order = ap (taken s past ++◌) wait ∙ a.in_order;
        confirmed_through = a.confirmed_through;
        accounted = a.accounted ∙ ap (λ (l : List DataUnit). take (confirmed h past) (accepted h past) ++ reclaimed h past ++ l) (sym hold);
      }
