-- A station that takes slowly, computed over the calls with Flow Control at both ends (document 02, A5): window 4, 8 slots, units of one segment. The Acks of
-- segments 1 to 8, untaken, state 5, 6, 7, 8, 8, 8, 8, 8; then the host has a unit and hands nothing out. A take makes Flow Control ready, with the number of the last
-- Ack and one number more; once it has come to the host, and its Ack to the station, the host goes on.
-- Assumes nothing.
use mathlib.Core.Path.{◌≡◌, refl}
use mathlib.Core.List.{List, [], ◌∷◌, ◌++◌, map}
use mathlib.Core.Bool.{Bool, true}
use Prim.Native.Nat.{ℕ, zero, suc, ◌+◌}
use lib.ListN.{replicate, get_or, take}
use Rattle.std.specs.Prelude.{if◌then◌else◌}
use Rattle.packet.specs.Kinds.{kind_of}
use Rattle.packet.specs.Layout.{head_of, body_of, packet_of}
use Rattle.packet.specs.Tests.{short, damaged, lacking, strange}
use Rattle.packet.specs.Writing.{written_of, after_write}
use Rattle.packet.specs.Reading.{read_of}
use Rattle.crc.specs.Crc.{shift_one, shifts, octet_into, crc_from, crc_of}
use Rattle.slots.specs.Ring.{round_of, back_of, run_of, cleared}
use Rattle.slots.specs.Slots.{laid}
use Rattle.channel.specs.Places.{slot_in}
use Rattle.store.specs.Store.{unit_of, ends_in, last_end_in, size_in, octets_in, filed_mem, filed_by, filed_lens, filed_marks}
use Rattle.channel.specs.declared.record.Limits.{Limits}
use Rattle.channel.specs.declared.record.Settings.{Settings}
use Rattle.channel.specs.Record.{made_of}
use Rattle.channel.specs.Answers.{number_of}
use Rattle.channel.specs.Lone.{fallen}
use Rattle.channel.specs.Pulse.{paced, heartbeat_step, heartbeat_ack_step}
use Rattle.channel.specs.Flow.{flow_step, flow_ack_step}
use Rattle.sender_acks.specs.Stated.{data_ack_stated, control_ack_stated}
use Rattle.channel.specs.Settings.{fit_window, fit_units, fit_timers, fit_route, fit_limits, fit_addresses, fit, clash}
use Rattle.channel.specs.Prefixes.{no_prefix, each, prefix_of, fit_prefix, same_prefix}
use Rattle.channel.specs.Standing.{named, in_ring, in_flight, sided, asking, rested, marked, slot_fit, slots_fit, standing}
use Rattle.sender.specs.Directives.{parked, open_step, close_step}
use Rattle.sender.specs.Ticking.{any_spent, tick_step}
use Rattle.sender_units.specs.Reclaiming.{reclaim_step, reclaim_out}
use Rattle.sender_units.specs.Transfer.{would_transfer, is_accepted, transfer_step, transfer_mem, transfer_lens}
use Rattle.sender_acks.specs.Acks.{control_ack_step, is_awaited, advanced, data_ack_step}
use Rattle.sender_packets.specs.HandingOut.{again_in, ready, next_fields, next_payload, next_out, hand_step, hand_out}
use Rattle.receiver.specs.Receiving as r
use Rattle.receiver_data.specs.Sorting.{is_held, sort_at}
use Rattle.receiver_data.specs.Moving.{fitting, moved_by}
use Rattle.receiver_data.specs.Data.{accept_step, data_step, is_filed, data_mem, data_lens}
use Rattle.receiver_data.specs.Taking.{take_step, take_out}
use Rattle.lines.specs.Lines.{stands, joined, without, relisted, before, line_octets, line_in, part_at, with_line, relist_all, served_from}
use Rattle.lines.specs.Grades.{place_in, grade_in, grade_of}
use Rattle.lines.specs.Fit.{below, apart, blank, fit_line, fit_lines}
use Rattle.table.specs.Lent.{all_slots, all_octets, each_stands, lawful, passes}
use Rattle.table.specs.Waiting.{waits, moved}
use Rattle.table.specs.Looking.{same, chosen_from}
use Rattle.table.specs.Serving.{stored, serve_one, index_served}
use Rattle.requests.specs.Handing.{next_for}
use Rattle.requests.specs.Requests.{opened_by, closed_by, transfer_for, take_for, reclaim_for}
use Rattle.ticks.specs.Ticking.{ticked_by}
use Rattle.arrivals.specs.Arriving.{arrive_by, arrival_for}
use Rattle.arrivals.specs.Finding.{is_ours, look_of}
use Rattle.arrivals.specs.Data.{unfit}
use Rattle.ticks.specs.Ticks.{any_inactive, first_inactive, relisted_from, ticked, tick_index}
use Rattle.protocol.specs.Numbers.{number_at, distance}
use Rattle.means.specs.Held.{units_in}
use Rattle.delivery.specs.Calls.{End, transfers, takes, hands, arrives}
use Rattle.delivery.specs.History.{host, subscriber, Event, written}
use Rattle.delivery.specs.Delivery.{begin}
use Rattle.delivery_sample.proofs.Script.{room, at_host, at_station, entering}
use Rattle.delivery_sample.proofs.Deciding.{Move, brings, writes_for, equal, handed_in, replied_in, fairly, packet_for, Checked, checked}

-- ---- a host and a station with such settings

abbrev limits : Limits
limits = record { window = 4; slots = 8; payload = 1; segments = 1; timeout = 4; closing = 4; retries = 2; interval = 0; flow = 1; spare = 0; lead = 0 }

abbrev sending : Settings
sending = record { addresses = record { channel = 7; remote = 65; direction = 0; prefix = no_prefix; own = no_prefix }; limits = limits }

abbrev receiving : Settings
receiving = record { addresses = record { channel = 7; remote = 64; direction = 1; prefix = no_prefix; own = no_prefix }; limits = limits }

abbrev end_of : ℕ → Settings → End
end_of address s =
    record { node = record { address = address; protocol = 5 }; table = made_of s ∷ []; mem = replicate 8 0; lens = replicate 8 0; lines = replicate 51 0; index = 0; start = 0 }

abbrev host_end : End
host_end = end_of 64 sending

abbrev station_end : End
station_end = end_of 65 receiving

-- ---- eight units come through and are not taken; segments are counted from 0, and numbered from 1

unfoldable pub filling : ℕ → ℕ → List Move
filling zero i = []
filling (suc n) i =
    at_host transfers ((i + 1) ∷ []) []
    ∷ at_host hands [] room
    ∷ brings subscriber 0 i
    ∷ brings host 0 i
    ∷ filling n (i + 1)

-- ---- one more is accepted, and stays; a take, and what it sets going

-- Flow Control numbered 8 that states 9, and its Ack
abbrev flow_control : List ℕ
flow_control = 64 ∷ 5 ∷ 94 ∷ 0 ∷ 1 ∷ 0 ∷ 7 ∷ 8 ∷ 0 ∷ 65 ∷ 9 ∷ 216 ∷ 88 ∷ []

abbrev flow_ack : List ℕ
flow_ack = 65 ∷ 5 ∷ 94 ∷ 0 ∷ 0 ∷ 0 ∷ 7 ∷ 8 ∷ 0 ∷ 64 ∷ 110 ∷ 151 ∷ []

-- segment 9, and its Ack, which states 9: eight are untaken again
abbrev nine : List ℕ
nine = 65 ∷ 5 ∷ 88 ∷ 0 ∷ 1 ∷ 0 ∷ 7 ∷ 9 ∷ 0 ∷ 64 ∷ 9 ∷ 31 ∷ 28 ∷ []

abbrev nine_ack : List ℕ
nine_ack = 64 ∷ 5 ∷ 89 ∷ 0 ∷ 1 ∷ 0 ∷ 7 ∷ 9 ∷ 0 ∷ 65 ∷ 9 ∷ 31 ∷ 71 ∷ []

abbrev going : List Move
going =
    at_host transfers (9 ∷ []) []
    ∷ at_host hands [] room
    ∷ at_station takes [] room
    ∷ at_station hands [] room
    ∷ at_host arrives flow_control room
    ∷ at_station arrives flow_ack room
    ∷ at_host hands [] room
    ∷ brings subscriber 0 8
    ∷ []

-- ---- what is seen of it, the latest call first: whether it is fair, what the station's replies state, and of the last eight calls the answers and what they wrote

pub record Seen : Type 0 where
  pub is_fair : Bool
  pub states : List ℕ
  pub answers : List ℕ
  pub wrote : List (List ℕ)

unfoldable pub states_in : List Event → List ℕ
states_in [] = []
states_in (e ∷ past) = if writes_for host e.call then get_or (written e) 10 0 ∷ states_in past else states_in past

abbrev last_eight : List Event → List Event
last_eight l = take 8 l

abbrev seen_of : Checked host_end station_end → Seen
seen_of x =
    record {
      is_fair = x.is_fair;
      states = states_in x.at.past;
      answers = map (λ e. number_of e.answer) (last_eight x.at.past);
      wrote = map (λ e. written e) (last_eight x.at.past);
    }

-- the Ack of the Open states 4, and to the Ack of Flow Control there is no reply
pub flow_run : seen_of (checked host_end station_end true (begin host_end station_end) (entering ++ filling 8 0 ++ going))
    ≡ record {
      is_fair = true;
      states = 9 ∷ 0 ∷ 8 ∷ 8 ∷ 8 ∷ 8 ∷ 8 ∷ 7 ∷ 6 ∷ 5 ∷ 4 ∷ [];
      answers = 0 ∷ 0 ∷ 0 ∷ 0 ∷ 0 ∷ 0 ∷ 12 ∷ 0 ∷ [];
      wrote = nine_ack ∷ nine ∷ [] ∷ flow_ack ∷ flow_control ∷ (1 ∷ []) ∷ [] ∷ [] ∷ [];
    }
unfolding paced heartbeat_step heartbeat_ack_step flow_step flow_ack_step data_ack_stated control_ack_stated head_of body_of packet_of short damaged kind_of lacking strange written_of after_write read_of shift_one shifts octet_into crc_from crc_of round_of back_of run_of cleared slot_in laid unit_of ends_in last_end_in size_in octets_in filed_mem filed_by filed_lens filed_marks fallen fit_window fit_units fit_timers fit_route fit_limits each prefix_of fit_prefix same_prefix fit_addresses fit clash named in_ring in_flight sided asking rested marked slot_fit slots_fit standing parked open_step close_step any_spent tick_step reclaim_step reclaim_out would_transfer is_accepted transfer_step transfer_mem transfer_lens control_ack_step is_awaited advanced data_ack_step again_in ready next_fields next_payload next_out hand_step hand_out r.leaving r.open_step r.open_arrives r.close_arrives r.control_step r.tick_step is_held sort_at fitting moved_by accept_step data_step is_filed data_mem data_lens take_step take_out all_slots all_octets each_stands lawful passes fit_lines fit_line part_at line_in below apart blank stands joined without relisted before line_octets with_line relist_all served_from place_in grade_in grade_of relisted_from waits moved same chosen_from stored serve_one index_served next_for opened_by closed_by transfer_for take_for reclaim_for ticked_by is_ours look_of unfit arrive_by arrival_for any_inactive first_inactive ticked tick_index number_at distance units_in equal handed_in replied_in fairly packet_for checked filling states_in
flow_run = refl
