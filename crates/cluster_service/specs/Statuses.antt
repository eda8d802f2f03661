-- The statuses that a run ends with: their numbers, and their lines.
use Rattle.std.specs.Prelude.{◌≡◌, ◌==◌, ℕ, List, Option, Some, None, codes, if◌then◌else◌}
use Rattle.conn_server.specs.declared.server.ServeEnd.{ServeEnd}
use Rattle.conn_server.specs.declared.server.ServeEnd.TheVariants as served
use Rattle.pipe_driver.specs.declared.status.Status as connections
use Rattle.pipe_driver.specs.declared.status.Status.TheVariants as ended
use Rattle.cluster_service.specs.declared.status.Status.{Status}
use Rattle.cluster_service.specs.declared.status.Status.TheVariants.{InputEnded, BadArguments, ReadFailed, WriteFailed, DiskFailed, DamagedJournal, OutOfMemory, AcceptFailed, BadInput, InputTooLong}

abbrev pub number_of : Status → ℕ
number_of InputEnded = 0
number_of BadArguments = 2
number_of ReadFailed = 3
number_of WriteFailed = 4
number_of DiskFailed = 5
number_of DamagedJournal = 6
number_of OutOfMemory = 7
number_of AcceptFailed = 8
number_of BadInput = 9
number_of InputTooLong = 10

-- the status with this number, if one has it
abbrev pub with_number : ℕ → Option Status
with_number number =
    if number == 0 then Some InputEnded
    else if number == 2 then Some BadArguments
    else if number == 3 then Some ReadFailed
    else if number == 4 then Some WriteFailed
    else if number == 5 then Some DiskFailed
    else if number == 6 then Some DamagedJournal
    else if number == 7 then Some OutOfMemory
    else if number == 8 then Some AcceptFailed
    else if number == 9 then Some BadInput
    else if number == 10 then Some InputTooLong
    else None

-- the line of a status, if it is not that of the end
abbrev pub line_of : Status → Option (List ℕ)
line_of InputEnded = None
line_of BadArguments = Some (codes "cluster: bad words")
line_of ReadFailed = Some (codes "cluster: read failed")
line_of WriteFailed = Some (codes "cluster: write failed")
line_of DiskFailed = Some (codes "cluster: disk failed")
line_of DamagedJournal = Some (codes "cluster: damaged journal")
line_of OutOfMemory = Some (codes "cluster: out of memory")
line_of AcceptFailed = Some (codes "cluster: accept failed")
line_of BadInput = Some (codes "cluster: bad input")
line_of InputTooLong = Some (codes "cluster: input too long")

-- the number is that of a status of which this holds
abbrev pub OfStatus : ℕ → (Status → Type 0) → Type 0
OfStatus number holds = (status : Status) × (number ≡ number_of status) × holds status

-- the status of a run whose connection ended with this one
abbrev pub of_connection : connections.Status → Status
of_connection ended.InputEnded = InputEnded
of_connection ended.ReadFailed = ReadFailed
of_connection ended.WriteFailed = WriteFailed
of_connection ended.DiskFailed = DiskFailed
of_connection ended.OutOfMemory = OutOfMemory
of_connection ended.BadInput = BadInput
of_connection ended.InputTooLong = InputTooLong

-- the status of a run whose server ended so
abbrev pub of_server : ServeEnd → Status
of_server served.Done = InputEnded
of_server served.AcceptFailed = AcceptFailed
of_server served.DiskFailed = DiskFailed
of_server served.OutOfMemory = OutOfMemory

-- the status is that of a connection of which this holds
abbrev pub OfConnection : Status → (connections.Status → Type 0) → Type 0
OfConnection status holds = (ending : connections.Status) × (status ≡ of_connection ending) × holds ending
