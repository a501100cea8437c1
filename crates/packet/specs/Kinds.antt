-- The kinds of packets, and the codes of their types (000, Table 4-2). No type is told by its number anywhere else. Type 6 is Flow Control and its
-- Ack: 000's note tells them apart by the end that sends it, and how many octets they carry does too (document 02, A5).
use Rattle.std.specs.Prelude.{ℕ, Bool, true, false, eqb, if◌then◌else◌}
use Rattle.packet.specs.declared.kinds.Kind.{Kind}
use Rattle.packet.specs.declared.kinds.Kind.TheVariants.{Data, DataAck, Open, Close, Heartbeat, HeartbeatAck, FlowControl, ControlAck, Lacking}

abbrev pub code_of : Kind → ℕ
code_of Data = 0
code_of DataAck = 1
code_of Open = 2
code_of Close = 3
code_of Heartbeat = 4
code_of HeartbeatAck = 5
code_of FlowControl = 6
code_of ControlAck = 7
code_of (Lacking code) = code

unfoldable pub kind_of : ℕ → Kind
kind_of code =
    if eqb code (code_of Data) then Data
    else if eqb code (code_of DataAck) then DataAck
    else if eqb code (code_of Open) then Open
    else if eqb code (code_of Close) then Close
    else if eqb code (code_of Heartbeat) then Heartbeat
    else if eqb code (code_of HeartbeatAck) then HeartbeatAck
    else if eqb code (code_of FlowControl) then FlowControl
    else if eqb code (code_of ControlAck) then ControlAck
    else Lacking code

abbrev pub is_data : Kind → Bool
is_data Data = true
is_data DataAck = false
is_data Open = false
is_data Close = false
is_data Heartbeat = false
is_data HeartbeatAck = false
is_data FlowControl = false
is_data ControlAck = false
is_data (Lacking code) = false

-- it is carried: every type that 000 has (document 02, A2 and A5)
abbrev pub carried : Kind → Bool
carried Data = true
carried DataAck = true
carried Open = true
carried Close = true
carried Heartbeat = true
carried HeartbeatAck = true
carried FlowControl = true
carried ControlAck = true
carried (Lacking code) = false

-- how many octets a packet other than Data carries at most: the Ack of Data or Control, and Flow Control, the number stated (000, 4.2.4.4)
abbrev pub most_carried : Kind → ℕ
most_carried Data = 0
most_carried DataAck = 1
most_carried Open = 0
most_carried Close = 0
most_carried Heartbeat = 0
most_carried HeartbeatAck = 0
most_carried FlowControl = 1
most_carried ControlAck = 1
most_carried (Lacking code) = 0
