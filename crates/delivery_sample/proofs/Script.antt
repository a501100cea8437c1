-- Two nodes and what is called of them: the story of the run that is computed in Sample.antt, and how the nodes stand in the middle of it.
-- Assumes nothing.
use mathlib.Core.List.{List, [], ◌∷◌, ◌++◌}
use Prim.Native.Nat.{ℕ, zero, suc, ◌+◌, ◌-◌, ◌%◌}
use lib.ListN.{replicate}
use Rattle.channel.specs.declared.record.Limits.{Limits}
use Rattle.channel.specs.declared.record.Settings.{Settings}
use Rattle.channel.specs.declared.record.Channel.{Channel}
use Rattle.channel.specs.declared.record.Timers.{Timers}
use Rattle.channel.specs.Prefixes.{no_prefix}
use Rattle.channel.specs.Record.{opened, made_of, no_lone, no_flow, no_marks, no_timers}
use Rattle.channel.specs.Flow.{last_is}
use Rattle.delivery.specs.Calls.{End, Kind, opens, transfers, asks, takes, reclaims, hands, arrives, ticks}
use Rattle.delivery.specs.History.{host, subscriber, Event}
use Rattle.delivery.specs.Delivery.{Run, begin}
use Rattle.delivery_sample.proofs.Deciding.{Move, does, brings, spoils}

-- ---- two nodes with one channel: window 2, 5 slots, at most 2 octets in a segment and 2 segments in a unit; both make Heartbeats

abbrev pub limits : Limits
limits = record { window = 2; slots = 5; payload = 2; segments = 2; timeout = 3; closing = 3; retries = 1; interval = 7; flow = 0; spare = 0; lead = 0 }

abbrev pub sending : Settings
sending = record { addresses = record { channel = 7; remote = 65; direction = 0; prefix = no_prefix; own = no_prefix }; limits = limits }

abbrev pub receiving : Settings
receiving = record { addresses = record { channel = 7; remote = 64; direction = 1; prefix = no_prefix; own = no_prefix }; limits = limits }

abbrev pub host_end : End
host_end = record { node = record { address = 64; protocol = 5 }; table = made_of sending ∷ []; mem = replicate 10 0; lens = replicate 5 0; lines = replicate 51 0; index = 0; start = 0 }

abbrev pub station_end : End
station_end = record { node = record { address = 65; protocol = 5 }; table = made_of receiving ∷ []; mem = replicate 10 0; lens = replicate 5 0; lines = replicate 51 0; index = 0; start = 0 }

-- ---- calls at the host and at the station

abbrev pub room : List ℕ
room = replicate 16 0

abbrev pub at_host : Kind → List ℕ → List ℕ → Move
at_host kind octets buffer = does (record { side = host; request = record { kind = kind; channel = 0; octets = octets; buffer = buffer }; copy_of = 0 })

abbrev pub at_station : Kind → List ℕ → List ℕ → Move
at_station kind octets buffer = does (record { side = subscriber; request = record { kind = kind; channel = 0; octets = octets; buffer = buffer }; copy_of = 0 })

-- ---- Heartbeats: the host's is answered; the station's is not, and two that nobody sent come, a Heartbeat and an Ack

abbrev pub seven_ticks : (Kind → List ℕ → List ℕ → Move) → List Move → List Move
seven_ticks at rest =
    at ticks [] [] ∷ at ticks [] [] ∷ at ticks [] [] ∷ at ticks [] [] ∷ at ticks [] [] ∷ at ticks [] [] ∷ at ticks [] [] ∷ rest

-- a Heartbeat numbered 9 for the host, and the Ack of one for the station
abbrev pub forged_beat : List ℕ
forged_beat = 64 ∷ 5 ∷ 92 ∷ 0 ∷ 0 ∷ 0 ∷ 7 ∷ 9 ∷ 0 ∷ 65 ∷ 169 ∷ 101 ∷ []

abbrev pub forged_ack : List ℕ
forged_ack = 65 ∷ 5 ∷ 93 ∷ 0 ∷ 0 ∷ 0 ∷ 7 ∷ 0 ∷ 0 ∷ 64 ∷ 15 ∷ 67 ∷ []

abbrev pub beating : List Move
beating =
    seven_ticks at_host
    (at_host hands [] room
    ∷ brings subscriber 0 0
    ∷ brings host 0 0
    ∷ seven_ticks at_station
    (at_station hands [] room
    ∷ at_host arrives forged_beat room
    ∷ at_station arrives forged_ack room
    ∷ []))

-- ---- the channel is opened, and n units of one octet go through, one after another

abbrev pub entering : List Move
entering =
    at_host opens [] []
    ∷ at_station opens [] []
    ∷ at_host hands [] room
    ∷ brings subscriber 0 0
    ∷ brings host 0 0
    ∷ []

abbrev pub opening : List Move
opening = entering ++ beating

abbrev pub rounds : ℕ → ℕ → List Move
rounds zero i = []
rounds (suc n) i =
    at_host transfers (i ∷ []) []
    ∷ at_host hands [] room
    ∷ brings subscriber 0 i
    ∷ at_station takes [] room
    ∷ brings host 0 i
    ∷ rounds n (i + 1)

-- ---- one of three octets, in the segments i and i + 1, which come in the other order, and so do their Acks

abbrev pub turned : ℕ → List Move
turned i =
    at_host transfers (1 ∷ 2 ∷ 3 ∷ []) []
    ∷ at_host hands [] room
    ∷ at_host hands [] room
    ∷ brings subscriber 0 (i + 1)
    ∷ brings subscriber 1 i
    ∷ brings host 1 (i + 1)
    ∷ brings host 0 i
    ∷ at_station takes [] room
    ∷ []

-- ---- one that is lost, handed out again, comes damaged, then whole, then once more, and so does its Ack

abbrev pub lost : ℕ → List Move
lost i =
    at_host transfers (4 ∷ []) []
    ∷ at_host hands [] room
    ∷ at_host ticks [] []
    ∷ at_host ticks [] []
    ∷ at_host ticks [] []
    ∷ at_host hands [] room
    ∷ spoils subscriber 0 i
    ∷ brings subscriber 0 i
    ∷ brings subscriber 0 i
    ∷ brings host 0 i
    ∷ brings host 1 i
    ∷ at_station takes [] room
    ∷ []

-- ---- the fan event, asked for first, comes through, and its Acks are lost; one more is accepted; then the station is silent, until the retries are used up

abbrev pub silent : ℕ → List Move
silent i =
    at_host asks (70 ∷ 65 ∷ 78 ∷ []) []
    ∷ at_host transfers (70 ∷ 65 ∷ 78 ∷ []) []
    ∷ at_host hands [] room
    ∷ at_host hands [] room
    ∷ brings subscriber 1 i
    ∷ brings subscriber 0 (i + 1)
    ∷ at_station takes [] room
    ∷ at_host transfers (9 ∷ []) []
    ∷ at_host ticks [] []
    ∷ at_host ticks [] []
    ∷ at_host ticks [] []
    ∷ at_host hands [] room
    ∷ at_host hands [] room
    ∷ at_host ticks [] []
    ∷ at_host ticks [] []
    ∷ at_host ticks [] []
    ∷ at_host reclaims [] room
    ∷ []

abbrev pub ending : List Move
ending = turned 255 ++ lost 257 ++ silent 258

-- ---- how the nodes stand once i units have gone through, i a multiple of 5: nothing is held, and the slots have the last five octets. The last packet that
-- the station sent is the Ack of the last of them; what the host sent besides Data is the Ack of the forged Heartbeat

-- the first five of 128 are v
abbrev pub five_of : ℕ → List ℕ
five_of v = replicate 5 v ++ replicate 123 0

abbrev pub last_five : ℕ → List ℕ
last_five i = (i - 5) ∷ 0 ∷ (i - 4) ∷ 0 ∷ (i - 3) ∷ 0 ∷ (i - 2) ∷ 0 ∷ (i - 1) ∷ 0 ∷ []

abbrev pub standing_at : Settings → ℕ → ℕ → ℕ → Timers → List ℕ → Channel
standing_at s i last accepted timers acked =
    record {
      addresses = s.addresses;
      limits = s.limits;
      phase = record { state = opened; reason = 0; kept = 0; accepted = accepted; control = no_lone };
      pulse = record { left = s.limits.interval; beat = no_lone; flow = last_is last no_flow };
      window = record { start = (i + 1) % 256; place = 0; behind = 0; ahead = 0; flight = 0; way = 0 };
      timers = timers;
      marks = no_marks;
      acked = acked;
    }

abbrev pub host_after : ℕ → End
host_after i =
    record {
      node = host_end.node;
      table = standing_at sending i 9 0 (record { closing = 0; left = replicate 128 0; tries = five_of 1 }) (five_of 1) ∷ [];
      mem = last_five i;
      lens = replicate 5 1;
      lines = replicate 51 0;
      index = 0;
      start = i;
    }

abbrev pub station_after : ℕ → End
station_after i =
    record { node = station_end.node; table = standing_at receiving i i 1 no_timers no_marks ∷ []; mem = last_five i; lens = replicate 5 1; lines = replicate 51 0; index = 0; start = i }

abbrev pub from : Run
from = begin host_end station_end

abbrev pub run_at : List Event → ℕ → Run
run_at past i = record { past = past; host = host_after i; subscriber = station_after i }

-- all of it
abbrev pub script : List Move
script = ((((((opening ++ rounds 5 0) ++ rounds 50 5) ++ rounds 50 55) ++ rounds 50 105) ++ rounds 50 155) ++ rounds 50 205) ++ ending
