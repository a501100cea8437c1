-- What a record of a trace asks of the node (document 01, Replay program): '1 arrival, 2 tick, 3 Open, 4 Close, 5 transfer, 6 take, 7 next packet, 8
-- reclaim; kinds 3, 4, 5, 6 and 8 begin with a channel index octet. An unknown kind or a missing index answers 14'.
use Rattle.std.specs.Prelude.{List, ℕ, eqb, length, get_or, if◌then◌else◌}
use Rattle.channel.specs.declared.record.Node.{Node}
use Rattle.node.specs.declared.request.Request.{Request}
use Rattle.node.specs.declared.request.Request.TheVariants.{Open, Close, Transfer, Take, Reclaim, Arrival, NextPacket, Unknown}

unfoldable pub indexed_by : ℕ → ℕ → Request
indexed_by kind index =
    if eqb kind 3 then Open index
    else if eqb kind 4 then Close index
    else if eqb kind 5 then Transfer index
    else if eqb kind 6 then Take index
    else if eqb kind 8 then Reclaim index
    else Unknown

unfoldable pub request_of : ℕ → List ℕ → Node → Request
request_of kind body node =
    if eqb kind 1 then Arrival node
    else if eqb kind 7 then NextPacket node
    else if eqb (length body) 0 then Unknown
    else indexed_by kind (get_or body 0 0)

-- a packet is the whole body, a unit what follows the index octet
unfoldable pub octets_from : ℕ → List ℕ → ℕ
octets_from kind body =
    if eqb kind 1 then 0
    else if eqb (length body) 0 then 0
    else 1
