-- The run of Script.antt, computed part by part, each behind any history: one part after another is too much for one declaration.
-- Assumes nothing.
use mathlib.Core.Path.{◌≡◌, refl}
use mathlib.Core.List.{List, [], ◌∷◌, ◌++◌}
use mathlib.Core.Bool.{Bool, true}
use Prim.Native.Nat.{ℕ, zero, suc, ◌+◌}
use Rattle.packet.specs.Kinds.{kind_of}
use Rattle.packet.specs.Layout.{head_of, body_of, packet_of}
use Rattle.packet.specs.Tests.{short, damaged, lacking, strange}
use Rattle.packet.specs.Writing.{written_of, after_write}
use Rattle.packet.specs.Reading.{read_of}
use Rattle.crc.specs.Crc.{shift_one, shifts, octet_into, crc_from, crc_of}
use Rattle.slots.specs.Ring.{round_of, back_of, run_of, cleared}
use Rattle.slots.specs.Slots.{laid}
use Rattle.channel.specs.Places.{slot_in}
use Rattle.store.specs.Store.{unit_of, ends_in, last_end_in, size_in, octets_in, filed_mem, filed_by, filed_lens, filed_marks}
use Rattle.channel.specs.Lone.{fallen}
use Rattle.channel.specs.Pulse.{paced, heartbeat_step, heartbeat_ack_step}
use Rattle.channel.specs.Flow.{flow_step, flow_ack_step}
use Rattle.sender_acks.specs.Stated.{data_ack_stated, control_ack_stated}
use Rattle.channel.specs.Settings.{fit_window, fit_units, fit_timers, fit_route, fit_limits, fit_addresses, fit, clash}
use Rattle.channel.specs.Prefixes.{each, prefix_of, fit_prefix, same_prefix}
use Rattle.channel.specs.Standing.{named, in_ring, in_flight, sided, asking, rested, marked, slot_fit, slots_fit, standing}
use Rattle.sender.specs.Directives.{parked, open_step, close_step}
use Rattle.sender.specs.Ticking.{any_spent, tick_step}
use Rattle.sender_units.specs.Reclaiming.{reclaim_step, reclaim_out}
use Rattle.sender_units.specs.Transfer.{would_transfer, is_accepted, transfer_step, transfer_mem, transfer_lens}
use Rattle.sender_acks.specs.Acks.{control_ack_step, is_awaited, advanced, data_ack_step}
use Rattle.sender_packets.specs.HandingOut.{again_in, ready, next_fields, next_payload, next_out, hand_step, hand_out}
use Rattle.receiver.specs.Receiving as r
use Rattle.receiver_data.specs.Sorting.{is_held, sort_at}
use Rattle.receiver_data.specs.Moving.{fitting, moved_by}
use Rattle.receiver_data.specs.Data.{accept_step, data_step, is_filed, data_mem, data_lens}
use Rattle.receiver_data.specs.Taking.{take_step, take_out}
use Rattle.lines.specs.Lines.{stands, joined, without, relisted, before, line_octets, line_in, part_at, with_line, relist_all, served_from}
use Rattle.lines.specs.Grades.{place_in, grade_in, grade_of}
use Rattle.lines.specs.Fit.{below, apart, blank, fit_line, fit_lines}
use Rattle.table.specs.Lent.{all_slots, all_octets, each_stands, lawful, passes}
use Rattle.table.specs.Waiting.{waits, moved}
use Rattle.table.specs.Looking.{same, chosen_from}
use Rattle.table.specs.Serving.{stored, serve_one, index_served}
use Rattle.requests.specs.Handing.{next_for}
use Rattle.requests.specs.Requests.{opened_by, closed_by, transfer_for, asked_by, take_for, reclaim_for}
use Rattle.ticks.specs.Ticking.{ticked_by}
use Rattle.arrivals.specs.Arriving.{arrive_by, arrival_for}
use Rattle.arrivals.specs.Finding.{is_ours, look_of}
use Rattle.arrivals.specs.Data.{unfit}
use Rattle.ticks.specs.Ticks.{any_inactive, first_inactive, relisted_from, ticked, tick_index}
use Rattle.protocol.specs.Numbers.{number_at, distance}
use Rattle.means.specs.Held.{units_in}
use Rattle.delivery.specs.Calls.{End, units_of}
use Rattle.delivery.specs.History.{Event, accepted, confirmed, reclaimed, taken}
use Rattle.delivery_sample.proofs.Script.{host_end, station_end, opening, rounds, ending, host_after, station_after, from, run_at}
use Rattle.delivery_sample.proofs.Deciding.{equal, handed_in, replied_in, fairly, packet_for, Checked, checked}

-- ---- a part of the run: whether it is fair, how it leaves the nodes, and what is read from its history

pub record Look : Type 0 where
  pub is_fair : Bool
  pub at_host : End
  pub at_station : End
  pub accepted : List (List ℕ)
  pub confirmed : ℕ
  pub reclaimed : List (List ℕ)
  pub taken : List (List ℕ)

abbrev pub looked : Checked host_end station_end → Look
looked x =
    record {
      is_fair = x.is_fair;
      at_host = x.at.host;
      at_station = x.at.subscriber;
      accepted = accepted host_end x.at.past;
      confirmed = confirmed host_end x.at.past;
      reclaimed = reclaimed host_end x.at.past;
      taken = taken station_end x.at.past;
    }

-- n units more, of one octet each, from i on
abbrev pub more : ℕ → ℕ → List (List ℕ) → List (List ℕ)
more zero i l = l
more (suc n) i l = more n (i + 1) (l ++ ((i ∷ []) ∷ []))

abbrev pub ones : ℕ → ℕ → ℕ
ones zero m = m
ones (suc n) m = ones n (m + 1)

-- after n rounds from i on, behind any history
abbrev pub after_rounds : List Event → ℕ → ℕ → Look
after_rounds past n i =
    record {
      is_fair = true;
      at_host = host_after (i + n);
      at_station = station_after (i + n);
      accepted = more n i (accepted host_end past);
      confirmed = ones n (confirmed host_end past);
      reclaimed = reclaimed host_end past;
      taken = more n i (taken station_end past);
    }

-- ---- computed, part by part

pub beginning : looked (checked host_end station_end true from (opening ++ rounds 5 0)) ≡ after_rounds [] 5 0
unfolding paced heartbeat_step heartbeat_ack_step flow_step flow_ack_step data_ack_stated control_ack_stated head_of body_of packet_of short damaged kind_of lacking strange written_of after_write read_of shift_one shifts octet_into crc_from crc_of round_of back_of run_of cleared slot_in laid unit_of ends_in last_end_in size_in octets_in filed_mem filed_by filed_lens filed_marks fallen fit_window fit_units fit_timers fit_route fit_limits each prefix_of fit_prefix same_prefix fit_addresses fit clash named in_ring in_flight sided asking rested marked slot_fit slots_fit standing parked open_step close_step any_spent tick_step reclaim_step reclaim_out would_transfer is_accepted transfer_step transfer_mem transfer_lens control_ack_step is_awaited advanced data_ack_step again_in ready next_fields next_payload next_out hand_step hand_out r.leaving r.open_step r.open_arrives r.close_arrives r.control_step r.tick_step is_held sort_at fitting moved_by accept_step data_step is_filed data_mem data_lens take_step take_out all_slots all_octets each_stands lawful passes fit_lines fit_line part_at line_in below apart blank stands joined without relisted before line_octets with_line relist_all served_from place_in grade_in grade_of relisted_from waits moved same chosen_from stored serve_one index_served next_for opened_by closed_by transfer_for take_for reclaim_for ticked_by is_ours look_of unfit arrive_by arrival_for any_inactive first_inactive ticked tick_index number_at distance units_in equal handed_in replied_in fairly packet_for checked
beginning = refl

pub rounds_5 : (past : List Event) → looked (checked host_end station_end true (run_at past 5) (rounds 50 5)) ≡ after_rounds past 50 5
unfolding paced heartbeat_step heartbeat_ack_step flow_step flow_ack_step data_ack_stated control_ack_stated head_of body_of packet_of short damaged kind_of lacking strange written_of after_write read_of shift_one shifts octet_into crc_from crc_of round_of back_of run_of cleared slot_in laid unit_of ends_in last_end_in size_in octets_in filed_mem filed_by filed_lens filed_marks fallen fit_window fit_units fit_timers fit_route fit_limits each prefix_of fit_prefix same_prefix fit_addresses fit clash named in_ring in_flight sided asking rested marked slot_fit slots_fit standing parked open_step close_step any_spent tick_step reclaim_step reclaim_out would_transfer is_accepted transfer_step transfer_mem transfer_lens control_ack_step is_awaited advanced data_ack_step again_in ready next_fields next_payload next_out hand_step hand_out r.leaving r.open_step r.open_arrives r.close_arrives r.control_step r.tick_step is_held sort_at fitting moved_by accept_step data_step is_filed data_mem data_lens take_step take_out all_slots all_octets each_stands lawful passes fit_lines fit_line part_at line_in below apart blank stands joined without relisted before line_octets with_line relist_all served_from place_in grade_in grade_of relisted_from waits moved same chosen_from stored serve_one index_served next_for opened_by closed_by transfer_for take_for reclaim_for ticked_by is_ours look_of unfit arrive_by arrival_for any_inactive first_inactive ticked tick_index number_at distance units_in equal handed_in replied_in fairly packet_for checked
rounds_5 past = refl

pub rounds_55 : (past : List Event) → looked (checked host_end station_end true (run_at past 55) (rounds 50 55)) ≡ after_rounds past 50 55
unfolding paced heartbeat_step heartbeat_ack_step flow_step flow_ack_step data_ack_stated control_ack_stated head_of body_of packet_of short damaged kind_of lacking strange written_of after_write read_of shift_one shifts octet_into crc_from crc_of round_of back_of run_of cleared slot_in laid unit_of ends_in last_end_in size_in octets_in filed_mem filed_by filed_lens filed_marks fallen fit_window fit_units fit_timers fit_route fit_limits each prefix_of fit_prefix same_prefix fit_addresses fit clash named in_ring in_flight sided asking rested marked slot_fit slots_fit standing parked open_step close_step any_spent tick_step reclaim_step reclaim_out would_transfer is_accepted transfer_step transfer_mem transfer_lens control_ack_step is_awaited advanced data_ack_step again_in ready next_fields next_payload next_out hand_step hand_out r.leaving r.open_step r.open_arrives r.close_arrives r.control_step r.tick_step is_held sort_at fitting moved_by accept_step data_step is_filed data_mem data_lens take_step take_out all_slots all_octets each_stands lawful passes fit_lines fit_line part_at line_in below apart blank stands joined without relisted before line_octets with_line relist_all served_from place_in grade_in grade_of relisted_from waits moved same chosen_from stored serve_one index_served next_for opened_by closed_by transfer_for take_for reclaim_for ticked_by is_ours look_of unfit arrive_by arrival_for any_inactive first_inactive ticked tick_index number_at distance units_in equal handed_in replied_in fairly packet_for checked
rounds_55 past = refl

pub rounds_105 : (past : List Event) → looked (checked host_end station_end true (run_at past 105) (rounds 50 105)) ≡ after_rounds past 50 105
unfolding paced heartbeat_step heartbeat_ack_step flow_step flow_ack_step data_ack_stated control_ack_stated head_of body_of packet_of short damaged kind_of lacking strange written_of after_write read_of shift_one shifts octet_into crc_from crc_of round_of back_of run_of cleared slot_in laid unit_of ends_in last_end_in size_in octets_in filed_mem filed_by filed_lens filed_marks fallen fit_window fit_units fit_timers fit_route fit_limits each prefix_of fit_prefix same_prefix fit_addresses fit clash named in_ring in_flight sided asking rested marked slot_fit slots_fit standing parked open_step close_step any_spent tick_step reclaim_step reclaim_out would_transfer is_accepted transfer_step transfer_mem transfer_lens control_ack_step is_awaited advanced data_ack_step again_in ready next_fields next_payload next_out hand_step hand_out r.leaving r.open_step r.open_arrives r.close_arrives r.control_step r.tick_step is_held sort_at fitting moved_by accept_step data_step is_filed data_mem data_lens take_step take_out all_slots all_octets each_stands lawful passes fit_lines fit_line part_at line_in below apart blank stands joined without relisted before line_octets with_line relist_all served_from place_in grade_in grade_of relisted_from waits moved same chosen_from stored serve_one index_served next_for opened_by closed_by transfer_for take_for reclaim_for ticked_by is_ours look_of unfit arrive_by arrival_for any_inactive first_inactive ticked tick_index number_at distance units_in equal handed_in replied_in fairly packet_for checked
rounds_105 past = refl

pub rounds_155 : (past : List Event) → looked (checked host_end station_end true (run_at past 155) (rounds 50 155)) ≡ after_rounds past 50 155
unfolding paced heartbeat_step heartbeat_ack_step flow_step flow_ack_step data_ack_stated control_ack_stated head_of body_of packet_of short damaged kind_of lacking strange written_of after_write read_of shift_one shifts octet_into crc_from crc_of round_of back_of run_of cleared slot_in laid unit_of ends_in last_end_in size_in octets_in filed_mem filed_by filed_lens filed_marks fallen fit_window fit_units fit_timers fit_route fit_limits each prefix_of fit_prefix same_prefix fit_addresses fit clash named in_ring in_flight sided asking rested marked slot_fit slots_fit standing parked open_step close_step any_spent tick_step reclaim_step reclaim_out would_transfer is_accepted transfer_step transfer_mem transfer_lens control_ack_step is_awaited advanced data_ack_step again_in ready next_fields next_payload next_out hand_step hand_out r.leaving r.open_step r.open_arrives r.close_arrives r.control_step r.tick_step is_held sort_at fitting moved_by accept_step data_step is_filed data_mem data_lens take_step take_out all_slots all_octets each_stands lawful passes fit_lines fit_line part_at line_in below apart blank stands joined without relisted before line_octets with_line relist_all served_from place_in grade_in grade_of relisted_from waits moved same chosen_from stored serve_one index_served next_for opened_by closed_by transfer_for take_for reclaim_for ticked_by is_ours look_of unfit arrive_by arrival_for any_inactive first_inactive ticked tick_index number_at distance units_in equal handed_in replied_in fairly packet_for checked
rounds_155 past = refl

pub rounds_205 : (past : List Event) → looked (checked host_end station_end true (run_at past 205) (rounds 50 205)) ≡ after_rounds past 50 205
unfolding paced heartbeat_step heartbeat_ack_step flow_step flow_ack_step data_ack_stated control_ack_stated head_of body_of packet_of short damaged kind_of lacking strange written_of after_write read_of shift_one shifts octet_into crc_from crc_of round_of back_of run_of cleared slot_in laid unit_of ends_in last_end_in size_in octets_in filed_mem filed_by filed_lens filed_marks fallen fit_window fit_units fit_timers fit_route fit_limits each prefix_of fit_prefix same_prefix fit_addresses fit clash named in_ring in_flight sided asking rested marked slot_fit slots_fit standing parked open_step close_step any_spent tick_step reclaim_step reclaim_out would_transfer is_accepted transfer_step transfer_mem transfer_lens control_ack_step is_awaited advanced data_ack_step again_in ready next_fields next_payload next_out hand_step hand_out r.leaving r.open_step r.open_arrives r.close_arrives r.control_step r.tick_step is_held sort_at fitting moved_by accept_step data_step is_filed data_mem data_lens take_step take_out all_slots all_octets each_stands lawful passes fit_lines fit_line part_at line_in below apart blank stands joined without relisted before line_octets with_line relist_all served_from place_in grade_in grade_of relisted_from waits moved same chosen_from stored serve_one index_served next_for opened_by closed_by transfer_for take_for reclaim_for ticked_by is_ours look_of unfit arrive_by arrival_for any_inactive first_inactive ticked tick_index number_at distance units_in equal handed_in replied_in fairly packet_for checked
rounds_205 past = refl

-- the ending: what is read from the history, what the host holds, and how far its window has come
pub record Ended : Type 0 where
  pub is_fair : Bool
  pub accepted : List (List ℕ)
  pub confirmed : ℕ
  pub reclaimed : List (List ℕ)
  pub taken : List (List ℕ)
  pub held : List (List ℕ)
  pub start : ℕ

abbrev pub ended_as : Checked host_end station_end → Ended
ended_as x =
    record {
      is_fair = x.is_fair;
      accepted = accepted host_end x.at.past;
      confirmed = confirmed host_end x.at.past;
      reclaimed = reclaimed host_end x.at.past;
      taken = taken station_end x.at.past;
      held = units_of x.at.host;
      start = x.at.host.start;
    }

-- the units 1 2 3, 4, the fan event, and 9
abbrev pub after_ending : List (List ℕ) → ℕ → List (List ℕ) → List (List ℕ) → Ended
after_ending acc cnt back tak =
    record {
      is_fair = true;
      accepted = (((acc ++ ((1 ∷ 2 ∷ 3 ∷ []) ∷ [])) ++ ((4 ∷ []) ∷ [])) ++ ((70 ∷ 65 ∷ 78 ∷ []) ∷ [])) ++ ((9 ∷ []) ∷ []);
      confirmed = cnt + 0 + 1 + 1 + 0;
      reclaimed = back ++ ((70 ∷ 65 ∷ 78 ∷ []) ∷ []);
      taken = ((tak ++ ((1 ∷ 2 ∷ 3 ∷ []) ∷ [])) ++ ((4 ∷ []) ∷ [])) ++ ((70 ∷ 65 ∷ 78 ∷ []) ∷ []);
      held = (9 ∷ []) ∷ [];
      start = 258;
    }

pub the_ending : (past : List Event)
    → ended_as (checked host_end station_end true (run_at past 255) ending)
    ≡ after_ending (accepted host_end past) (confirmed host_end past) (reclaimed host_end past) (taken station_end past)
unfolding paced heartbeat_step heartbeat_ack_step flow_step flow_ack_step data_ack_stated control_ack_stated head_of body_of packet_of short damaged kind_of lacking strange written_of after_write read_of shift_one shifts octet_into crc_from crc_of round_of back_of run_of cleared slot_in laid unit_of ends_in last_end_in size_in octets_in filed_mem filed_by filed_lens filed_marks fallen fit_window fit_units fit_timers fit_route fit_limits each prefix_of fit_prefix same_prefix fit_addresses fit clash named in_ring in_flight sided asking rested marked slot_fit slots_fit standing parked open_step close_step any_spent tick_step reclaim_step reclaim_out would_transfer is_accepted transfer_step transfer_mem transfer_lens control_ack_step is_awaited advanced data_ack_step again_in ready next_fields next_payload next_out hand_step hand_out r.leaving r.open_step r.open_arrives r.close_arrives r.control_step r.tick_step is_held sort_at fitting moved_by accept_step data_step is_filed data_mem data_lens take_step take_out all_slots all_octets each_stands lawful passes fit_lines fit_line part_at line_in below apart blank stands joined without relisted before line_octets with_line relist_all served_from place_in grade_in grade_of relisted_from waits moved same chosen_from stored serve_one index_served next_for opened_by closed_by transfer_for asked_by take_for reclaim_for ticked_by is_ours look_of unfit arrive_by arrival_for any_inactive first_inactive ticked tick_index number_at distance units_in equal handed_in replied_in fairly packet_for checked
the_ending past = refl
