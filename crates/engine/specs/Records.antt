-- A record of a trace, and the two channels of a replay (document 01, Replay program).
use Rattle.std.specs.Prelude.{List, [], ◌∷◌, ℕ, eqb, drop, if◌then◌else◌}
use Rattle.walks.specs.Serving.{Called, leaves, saying}
use Rattle.channel.specs.declared.record.Node.{Node}
use Rattle.channel.specs.declared.record.Settings.{Settings}
use Rattle.channel.specs.declared.record.Channel.{Channel}
use Rattle.channel.specs.Record.{sends, receives}
use Rattle.channel.specs.Prefixes.{no_prefix}
use Rattle.table.specs.declared.deciding.Told.{Told}
use Rattle.table.specs.Serving.{told_of}
use Rattle.ticks.specs.Ticks.{ticked, tick_index}
use Rattle.node.specs.declared.request.Request.{Request}
use Rattle.node.specs.Calls.{served, served_index}
use Rattle.engine.specs.Asking.{request_of, octets_from}

-- the node's tick, and its one door, each with the index that is told
abbrev pub ticking : List Channel → List ℕ → List ℕ → List ℕ → List ℕ → Called Told Channel
ticking t mem lens lines out =
    let g = ticked t mem lens lines in leaves (told_of (tick_index t mem lens lines) g.answer) g.table mem lens g.lines out

abbrev pub serving : List Channel → List ℕ → List ℕ → List ℕ → Request → List ℕ → List ℕ → Called Told Channel
serving t mem lens lines n x out = saying (told_of (served_index t mem lens lines n x out)) (served t mem lens lines n x out)

-- kind 2 is a tick; all others are for one channel
unfoldable pub replayed : List Channel → List ℕ → List ℕ → List ℕ → Node → ℕ → List ℕ → List ℕ → Called Told Channel
replayed t mem lens lines node kind body out =
    if eqb kind 2 then ticking t mem lens lines out
    else serving t mem lens lines (request_of kind body node) (drop (octets_from kind body) body) out

-- k 4, slots 8, P 16, M 4, timeouts 4, retries 2; no prefixes
abbrev pub settings_for : ℕ → ℕ → ℕ → Settings
settings_for channel remote direction =
    record {
      addresses = record { channel = channel; remote = remote; direction = direction; prefix = no_prefix; own = no_prefix };
      limits = record { window = 4; slots = 8; payload = 16; segments = 4; timeout = 4; closing = 4; retries = 2; interval = 0; flow = 0; spare = 0; lead = 0 };
    }

-- channel 0 transmits, channel 1 receives
abbrev pub settings_of : ℕ → ℕ → ℕ → List Settings
settings_of remote first second = settings_for first remote sends ∷ settings_for second remote receives ∷ []
