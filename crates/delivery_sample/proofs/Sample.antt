-- The statement is about something: a run of two nodes, call by call with real packets, that satisfies every premise. The link loses Data and
-- Data Acks, repeats, reorders and damages; the sequence number comes round past 255; the station falls silent in the end. Units are taken,
-- confirmed and reclaimed, one of them taken and yet reclaimed, because its Data Acks were lost.
-- Assumes nothing.
use mathlib.Core.Path.{◌≡◌, refl, sym, ap, ◌∙◌, subst}
use mathlib.Core.Bool.{Bool, true}
use mathlib.Core.List.{List, [], ◌∷◌, ◌++◌}
use Prim.Native.Nat.{ℕ, ◌+◌, ◌<◌}
use native.Mathlib.Omega.{arith}
use lib.ListN.{length, drop}
use Rattle.slots.specs.Ring.{round_of, back_of, run_of}
use Rattle.channel.specs.Places.{slot_in}
use Rattle.channel.specs.Prefixes.{each, fit_prefix}
use Rattle.channel.specs.Settings.{fit_window, fit_units, fit_timers, fit_route, fit_limits, fit_addresses}
use Rattle.channel.specs.Standing.{named, in_ring, in_flight, sided, asking, rested, marked, slot_fit, slots_fit, standing}
use Rattle.table.specs.Lent.{all_slots, all_octets, each_stands, lawful}
use Rattle.table.specs.Serving.{record_at}
use Rattle.delivery.specs.Calls.{End, units_of}
use Rattle.delivery.specs.History.{Call, Event, accepted, confirmed, reclaimed, taken}
use Rattle.delivery.specs.Delivery.{Fresh, Alike, Run, run, AllFair, Delivered}
use Rattle.delivery.proofs.Delivered.{demand_3}
use Rattle.delivery_sample.proofs.Deciding.{Move, calls_for, Checked, checked, checked_run, checked_fair, checked_on}
use Rattle.delivery_sample.proofs.Script.{host_end, station_end, opening, rounds, ending, host_after, station_after, from, run_at, script}
use Rattle.delivery_sample.proofs.Parts.{looked, Look, more, ones, after_rounds, beginning, rounds_5, rounds_55, rounds_105, rounds_155, rounds_205, Ended, ended_as, after_ending, the_ending}

-- ---- the parts, one after another

abbrev Here : Type 0
Here = Checked host_end station_end

-- fair so far, with both nodes as they stand after i rounds
abbrev fair_at : List Event → ℕ → Here
fair_at past i = record { is_fair = true; at = run_at past i }

whole : (x : Here) (i : ℕ) → x.is_fair ≡ true → x.at.host ≡ host_after i → x.at.subscriber ≡ station_after i → x ≡ fair_at x.at.past i
whole x i b e f =
    ap (λ (z : Bool). record { is_fair = z; at = x.at }) b
    ∙ ap (λ (z : End). record { is_fair = true; at = record { past = x.at.past; host = z; subscriber = x.at.subscriber } }) e
    ∙ ap (λ (z : End). record { is_fair = true; at = record { past = x.at.past; host = host_after i; subscriber = z } }) f

record Reached (l : List Move) (i : ℕ) (acc : List (List ℕ)) (cnt : ℕ) (tak : List (List ℕ)) : Type 0 where
  pub past : List Event
  pub at : checked host_end station_end true from l ≡ fair_at past i
  pub accepts : accepted host_end past ≡ acc
  pub confirms : confirmed host_end past ≡ cnt
  pub reclaims : reclaimed host_end past ≡ []
  pub takes : taken station_end past ≡ tak

-- by what is seen of it, behind the history of before
reach : (l : List Move) (x : Here) → checked host_end station_end true from l ≡ x
    → (n i : ℕ) (past : List Event) → looked x ≡ after_rounds past n i
    → (acc : List (List ℕ)) (cnt : ℕ) (tak : List (List ℕ))
    → accepted host_end past ≡ acc → confirmed host_end past ≡ cnt → reclaimed host_end past ≡ [] → taken station_end past ≡ tak
    → Reached l (i + n) (more n i acc) (ones n cnt) (more n i tak)
reach l x is n i past e acc cnt tak a b c d =
    record {
      past = x.at.past;
      at = is ∙ whole x (i + n) (ap (λ (z : Look). z.is_fair) e) (ap (λ (z : Look). z.at_host) e) (ap (λ (z : Look). z.at_station) e);
      accepts = ap (λ (z : Look). z.accepted) e ∙ ap (more n i) a;
      confirms = ap (λ (z : Look). z.confirmed) e ∙ ap (ones n) b;
      reclaims = ap (λ (z : Look). z.reclaimed) e ∙ c;
      takes = ap (λ (z : Look). z.taken) e ∙ ap (more n i) d;
    }

-- fifty rounds more
on : (l : List Move) (i : ℕ) (acc : List (List ℕ)) (cnt : ℕ) (tak : List (List ℕ))
    → ((past : List Event) → looked (checked host_end station_end true (run_at past i) (rounds 50 i)) ≡ after_rounds past 50 i)
    → Reached l i acc cnt tak
    → Reached (l ++ rounds 50 i) (i + 50) (more 50 i acc) (ones 50 cnt) (more 50 i tak)
on l i acc cnt tak part r =
    reach (l ++ rounds 50 i) (checked host_end station_end true (run_at r.past i) (rounds 50 i))
    (checked_on host_end station_end true from l (rounds 50 i) ∙ ap (λ (x : Here). checked host_end station_end x.is_fair x.at (rounds 50 i)) r.at)
    50 i r.past (part r.past) acc cnt tak r.accepts r.confirms r.reclaims r.takes

reached_5 : Reached (opening ++ rounds 5 0) 5 (more 5 0 []) (ones 5 0) (more 5 0 [])
reached_5 = reach (opening ++ rounds 5 0) (checked host_end station_end true from (opening ++ rounds 5 0)) refl 5 0 [] beginning [] 0 [] refl refl refl refl

abbrev rounds_all : List Move
rounds_all = (((((opening ++ rounds 5 0) ++ rounds 50 5) ++ rounds 50 55) ++ rounds 50 105) ++ rounds 50 155) ++ rounds 50 205

abbrev units_all : List (List ℕ)
units_all = more 50 205 (more 50 155 (more 50 105 (more 50 55 (more 50 5 (more 5 0 [])))))

abbrev count_all : ℕ
count_all = ones 50 (ones 50 (ones 50 (ones 50 (ones 50 (ones 5 0)))))

reached_255 : Reached rounds_all 255 units_all count_all units_all
reached_255 = on _ 205 _ _ _ rounds_205 (on _ 155 _ _ _ rounds_155 (on _ 105 _ _ _ rounds_105 (on _ 55 _ _ _ rounds_55 (on _ 5 _ _ _ rounds_5 reached_5))))

-- ---- all of it

abbrev past_255 : List Event
past_255 = reached_255.past

last_part : Here
last_part = checked host_end station_end true (run_at past_255 255) ending

reached_end : checked host_end station_end true from script ≡ last_part
unfolding last_part
reached_end =
    checked_on host_end station_end true from rounds_all ending
    ∙ ap (λ (x : Here). checked host_end station_end x.is_fair x.at ending) reached_255.at

-- 255 units of one octet, and four more
seen_at_end : ended_as (checked host_end station_end true from script) ≡ after_ending units_all count_all [] units_all
unfolding last_part
seen_at_end =
    ap ended_as reached_end ∙ the_ending past_255
    ∙ ap (λ (z : List (List ℕ)). after_ending z (confirmed host_end past_255) (reclaimed host_end past_255) (taken station_end past_255)) reached_255.accepts
    ∙ ap (λ (z : ℕ). after_ending units_all z (reclaimed host_end past_255) (taken station_end past_255)) reached_255.confirms
    ∙ ap (λ (z : List (List ℕ)). after_ending units_all count_all z (taken station_end past_255)) reached_255.reclaims
    ∙ ap (λ (z : List (List ℕ)). after_ending units_all count_all [] z) reached_255.takes

abbrev calls : List Call
calls = calls_for from script

-- ---- the premises

module _ (e : End) (one : length e.table ≡ 1) (first : e.index ≡ 0) where
  only : (j : ℕ) → j < length e.table → j ≡ 0
  only j less = omega (arith, one)

stands_host : lawful host_end.table host_end.mem host_end.lens ≡ true
unfolding round_of back_of run_of slot_in fit_window fit_units fit_timers fit_route fit_limits each fit_prefix fit_addresses named in_ring in_flight sided asking rested marked slot_fit slots_fit standing all_slots all_octets each_stands lawful
stands_host = refl

stands_station : lawful station_end.table station_end.mem station_end.lens ≡ true
unfolding round_of back_of run_of slot_in fit_window fit_units fit_timers fit_route fit_limits each fit_prefix fit_addresses named in_ring in_flight sided asking rested marked slot_fit slots_fit standing all_slots all_octets each_stands lawful
stands_station = refl

pub fresh_host : Fresh host_end
fresh_host =
    record {
      stands = stands_host;
      wide = λ i less. subst (λ (j : ℕ). length (record_at host_end.table j).marks ≡ 128) (sym (only host_end refl refl i less)) refl;
      below = omega arith;
      alone = λ j less apart. absurd (apart (only host_end refl refl j less));
      state = refl;
      empty = refl;
      start = refl;
    }

pub fresh_station : Fresh station_end
fresh_station =
    record {
      stands = stands_station;
      wide = λ i less. subst (λ (j : ℕ). length (record_at station_end.table j).marks ≡ 128) (sym (only station_end refl refl i less)) refl;
      below = omega arith;
      alone = λ j less apart. absurd (apart (only station_end refl refl j less));
      state = refl;
      empty = refl;
      start = refl;
    }

pub alike : Alike host_end station_end
alike =
    record {
      protocol = refl;
      number = refl;
      to_subscriber_end = refl;
      to_host_end = refl;
      subscriber_prefix = refl;
      host_prefix = refl;
      sends = refl;
      receives = refl;
      limits = refl;
    }

-- every call is fair
pub sample_fair : AllFair host_end station_end from calls
sample_fair = checked_fair host_end station_end true from script (ap (λ (x : Ended). x.is_fair) seen_at_end)

-- so demand 3 holds of it
pub sample_delivered : Delivered host_end station_end (run from calls)
sample_delivered = demand_3 host_end station_end fresh_host fresh_station alike calls sample_fair

-- ---- what came of it

abbrev ended : Run
ended = run from calls

sample_seen : ended_as (record { is_fair = (checked host_end station_end true from script).is_fair; at = ended }) ≡ after_ending units_all count_all [] units_all
sample_seen =
    ap (λ (x : Run). ended_as (record { is_fair = (checked host_end station_end true from script).is_fair; at = x })) (sym (checked_run host_end station_end true from script))
    ∙ seen_at_end

-- the host's window has passed 258 segments: the numbers have come round
pub sample_past_255 : ended.host.start ≡ 258
sample_past_255 = ap (λ (x : Ended). x.start) sample_seen

pub sample_accepted : length (accepted host_end ended.past) ≡ 259
sample_accepted = ap (λ (x : Ended). length x.accepted) sample_seen

pub sample_confirmed : confirmed host_end ended.past ≡ 257
sample_confirmed = ap (λ (x : Ended). x.confirmed) sample_seen

-- the fan event is both: taken, and reclaimed
pub sample_taken : drop 255 (taken station_end ended.past) ≡ (1 ∷ 2 ∷ 3 ∷ []) ∷ (4 ∷ []) ∷ (70 ∷ 65 ∷ 78 ∷ []) ∷ []
sample_taken = ap (λ (x : Ended). drop 255 x.taken) sample_seen

pub sample_reclaimed : reclaimed host_end ended.past ≡ (70 ∷ 65 ∷ 78 ∷ []) ∷ []
sample_reclaimed = ap (λ (x : Ended). x.reclaimed) sample_seen

pub sample_held : units_of ended.host ≡ (9 ∷ []) ∷ []
sample_held = ap (λ (x : Ended). x.held) sample_seen
