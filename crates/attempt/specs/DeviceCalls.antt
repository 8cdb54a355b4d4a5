-- Device calls and answers of the code, as the definitions see them, in each layout.
use Rattle.std.specs.Prelude.{◌+◌, ◌≤◌, ℕ, List, length}
use Rattle.disk.specs.Disk as device
use Rattle.torn_block.specs.Layout.{Version, row_length}
use Rattle.paxos_block.specs.Row.{decoded_row}
use Rattle.attempt.specs.Answers.{Heard, Booted, Done, Told, Fault}
use Rattle.attempt.specs.declared.heard.Heard as code_heard
use Rattle.attempt.specs.declared.heard.Heard.TheVariants as answer
use Rattle.attempt.specs.declared.need.DeviceCall as code_call
use Rattle.attempt.specs.declared.need.DeviceCall.TheVariants as call
use Rattle.attempt.specs.declared.need.Need.{Need}

-- the device call that is asked for; a read is of a whole row
abbrev pub device_call_of : Version → code_call.DeviceCall → device.Call
device_call_of v call.Attach = device.Attach
device_call_of v (call.Sync boot) = device.Sync boot.number
device_call_of v (call.Read boot at) = device.Read boot.number at (row_length v)
device_call_of v (call.Write boot at bytes) = device.Write boot.number at bytes.now

-- its range ends at this place at the latest
abbrev pub IsWithin : Version → ℕ → code_call.DeviceCall → Type 0
IsWithin v n call.Attach = Unit {0}
IsWithin v n (call.Sync boot) = Unit {0}
IsWithin v n (call.Read boot at) = at + row_length v ≤ n
IsWithin v n (call.Write boot at bytes) = at + length bytes.now ≤ n

-- with its disk
abbrev pub call_of_need : Version → Need → ℕ × device.Call
call_of_need v need = (need.disk, device_call_of v need.call)

-- of a row, by its bytes
abbrev pub heard_as : {R : Type 0} → Version → (R → List ℕ) → code_heard.Heard R → Heard
heard_as v bytes_of (answer.Booted boot) = Booted boot.number
heard_as v bytes_of answer.Done = Done
heard_as v bytes_of (answer.Told row) = Told (decoded_row v (bytes_of row.now))
heard_as v bytes_of (answer.Fault fault) = Fault fault

-- of a row that is its bytes
abbrev pub heard_of : Version → code_heard.Heard (List ℕ) → Heard
heard_of v = heard_as v (λ row. row)

-- the answer of a device, which tells the bytes of a row
abbrev pub answer_as : {R : Type 0} → (R → List ℕ) → code_heard.Heard R → device.Answer
answer_as bytes_of (answer.Booted boot) = device.Booted boot.number
answer_as bytes_of answer.Done = device.Done
answer_as bytes_of (answer.Told row) = device.Told (bytes_of row.now)
answer_as bytes_of (answer.Fault fault) = device.Fault fault

-- the same of a row that is its bytes
abbrev pub device_answer : code_heard.Heard (List ℕ) → device.Answer
device_answer = answer_as (λ row. row)
