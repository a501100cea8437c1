-- The one door of the node: every call that serves one channel, as one function of what it is given. It gives the answer, and the table, the memory, the
-- lengths, the lines and the lent buffer afterwards (document 01, Answer numbers). Every public call but `settings` and `tick` is this function at one request.
use Rattle.std.specs.Prelude.{List, [], ℕ, length}
use Rattle.walks.specs.Serving.{Called, Changed}
use Rattle.channel.specs.declared.record.Node.{Node}
use Rattle.channel.specs.declared.record.Channel.{Channel}
use Rattle.channel.specs.declared.answer.Answer.{Answer}
use Rattle.channel.specs.declared.answer.Refusal.TheVariants as refusal
use Rattle.channel.specs.Steps.{refusing}
use Rattle.table.specs.declared.looking.Look.{Look}
use Rattle.table.specs.declared.looking.Sought.TheVariants.{Index, Question, Ready, Nobody}
use Rattle.table.specs.Looking.{seeking}
use Rattle.table.specs.Serving.{Step, serve_one, index_served, table_of, alone}
use Rattle.requests.specs.Requests.{opened_by, closed_by, transfer_for, asked_by, take_for, reclaim_for}
use Rattle.requests.specs.Handing.{next_for}
use Rattle.arrivals.specs.Finding.{look_of}
use Rattle.arrivals.specs.Arriving.{arrival_for}
use Rattle.node.specs.declared.request.Request.{Request}
use Rattle.node.specs.declared.request.Request.TheVariants.{Open, Close, Transfer, WouldTransfer, Take, Reclaim, Arrival, NextPacket, Unknown}

-- ---- which channel a request is for, with the octets x read and a lent buffer of so many octets

abbrev pub look_in : Request → List ℕ → ℕ → Look
look_in (Open index) x room = seeking (Index index)
look_in (Close index) x room = seeking (Index index)
look_in (Transfer index) x room = seeking (Index index)
look_in (WouldTransfer index count) x room = seeking (Question index)
look_in (Take index) x room = seeking (Index index)
look_in (Reclaim index) x room = seeking (Index index)
look_in (Arrival node) x room = look_of node x room
look_in (NextPacket node) x room = seeking Ready
look_in Unknown x room = seeking (Nobody refusal.NoChannel)

-- ---- what it does to that channel

abbrev pub step_for : Request → List ℕ → Step
step_for (Open index) x = alone opened_by
step_for (Close index) x = alone closed_by
step_for (Transfer index) x = transfer_for x
step_for (WouldTransfer index count) x = alone (asked_by count)
step_for (Take index) x = take_for
step_for (Reclaim index) x = reclaim_for
step_for (Arrival node) x = arrival_for node x
step_for (NextPacket node) x = next_for node
step_for Unknown x = alone (λ c. refusing c refusal.NoChannel)

-- ---- the call, and the index of the channel that it serves

abbrev pub served : List Channel → List ℕ → List ℕ → List ℕ → Request → List ℕ → List ℕ → Called Answer Channel
served t mem lens lines n x out = serve_one (look_in n x (length out)) (step_for n x) t mem lens lines out

abbrev pub served_index : List Channel → List ℕ → List ℕ → List ℕ → Request → List ℕ → List ℕ → ℕ
served_index t mem lens lines n x out = index_served (look_in n x (length out)) t mem lens lines

-- ---- the public calls

abbrev pub open_call : List Channel → List ℕ → List ℕ → List ℕ → ℕ → Changed Answer Channel
open_call t mem lens lines index = table_of (served t mem lens lines (Open index) [] [])

abbrev pub close_call : List Channel → List ℕ → List ℕ → List ℕ → ℕ → Changed Answer Channel
close_call t mem lens lines index = table_of (served t mem lens lines (Close index) [] [])

abbrev pub transfer_call : List Channel → List ℕ → List ℕ → List ℕ → ℕ → List ℕ → Called Answer Channel
transfer_call t mem lens lines index unit = served t mem lens lines (Transfer index) unit []

-- a question: whatever it answers, nothing changes
abbrev pub question_call : List Channel → List ℕ → List ℕ → List ℕ → ℕ → ℕ → Changed Answer Channel
question_call t mem lens lines index count = table_of (served t mem lens lines (WouldTransfer index count) [] [])

abbrev pub take_call : List Channel → List ℕ → List ℕ → List ℕ → ℕ → List ℕ → Called Answer Channel
take_call t mem lens lines index out = served t mem lens lines (Take index) [] out

abbrev pub reclaim_call : List Channel → List ℕ → List ℕ → List ℕ → ℕ → List ℕ → Called Answer Channel
reclaim_call t mem lens lines index out = served t mem lens lines (Reclaim index) [] out

abbrev pub next_packet_call : List Channel → List ℕ → List ℕ → List ℕ → Node → List ℕ → Called Answer Channel
next_packet_call t mem lens lines node out = served t mem lens lines (NextPacket node) [] out

abbrev pub arrival_call : List Channel → List ℕ → List ℕ → List ℕ → Node → List ℕ → List ℕ → Called Answer Channel
arrival_call t mem lens lines node packet out = served t mem lens lines (Arrival node) packet out
