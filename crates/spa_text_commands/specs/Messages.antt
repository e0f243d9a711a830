-- Recorded messages: docs/FORMAT.md, "Recorded messages".
use Rattle.std.specs.Prelude.{◌-◌, ◌/◌, ◌%◌, ◌^◌, ℕ, ℤ, pos, Bool, false, codes, List, ◌++◌, Option, None, Some, if◌then◌else◌, is_some, option_map, unsigned_abs, unwrap_or}
use Rattle.std.specs.Fmt.{format_spec, signed_decimal, styled_decimal}
use Rattle.std.specs.Int.{int_rem_euclid}
use Rattle.std.specs.Str.{bytes_eq}
use Rattle.spa_format.specs.Kind.{none, bool, int, long}
use Rattle.spa_format.specs.Tree.{Tree, fixed, string, struct, Trees, member}
use Rattle.spa_text_read.specs.Letters.{shown_text}

-- what a recorded message says of itself, but for the client's process
pub record Message : Type 0 where
  pub time : ℤ
  pub to_daemon : Bool
  pub client : ℤ
  pub object : ℤ
  pub opcode : ℤ
  pub interface : Option (List ℕ)
  pub method : Option (List ℕ)

-- what the members say: a truth value, a number, a name or that there is none
abbrev pub bool_in : Tree → Option Bool
bool_in (fixed (bool x)) = Some x
bool_in v = None

abbrev pub int_in : Tree → Option ℤ
int_in (fixed (int x)) = Some x
int_in v = None

abbrev pub long_in : Tree → Option ℤ
long_in (fixed (long x)) = Some x
long_in v = None

abbrev pub name_in : Tree → Option (Option (List ℕ))
name_in (string name) = Some (Some name)
name_in (fixed none) = Some None
name_in v = None

-- the first member of a recorded message
abbrev pub is_mark : Tree → Bool
is_mark (string s) = bytes_eq s (codes "spav-guard 1")
is_mark v = false

-- what all of these say together
abbrev pub message : (time : Option ℤ) → (to_daemon : Option Bool) → (client process object opcode : Option ℤ) →
    (interface method : Option (Option (List ℕ))) → Option Message
message (Some time) (Some to_daemon) (Some client) (Some process) (Some object) (Some opcode) (Some interface) (Some method) =
    Some (record { time = time; to_daemon = to_daemon; client = client; object = object; opcode = opcode; interface = interface; method = method })
message _ _ _ _ _ _ _ _ = None

-- what the members of a struct say, if it is a recorded message
abbrev pub message_in : Trees → Option Message
message_in (member mark (member time (member way (member client (member process (member target (member opcode (member interface (member method vs))))))))) =
    if is_mark mark
    then message (long_in time) (bool_in way) (int_in client) (int_in process) (int_in target) (int_in opcode) (name_in interface) (name_in method)
    else None
message_in vs = None

-- ---- Heads

-- a number by so many digits, with zeros in front, as `{:0COUNT}` prints it: the fill is a blank (32), 0 is no alignment, 4 the flag `0`, and the last
-- number no precision
abbrev pub by_digits : (count n : ℕ) → List ℕ
by_digits count n = styled_decimal (format_spec 32 0 4 count (2 ^ 64 - 1)) n

-- how many nanoseconds are a day, an hour, a minute, a second, and one in the last digit that is shown
abbrev pub day : ℕ
day = 86400000000000

abbrev pub hour : ℕ
hour = 3600000000000

abbrev pub minute : ℕ
minute = 60000000000

abbrev pub second : ℕ
second = 1000000000

abbrev pub last_digit : ℕ
last_digit = 100000

-- the time of the day in UTC of this many nanoseconds since midnight, as 12:01:03.0412
abbrev pub day_text : (nanoseconds : ℕ) → List ℕ
day_text time =
    by_digits 2 (time / hour) ++ (codes ":" ++ (by_digits 2 (time % hour / minute) ++ (codes ":"
    ++ (by_digits 2 (time % minute / second) ++ (codes "." ++ by_digits 4 (time % second / last_digit))))))

-- the time of the day in UTC of this many nanoseconds since 1970
abbrev pub time_text : ℤ → List ℕ
time_text time = day_text (unsigned_abs (int_rem_euclid time (pos day)))

-- the method's name, or its opcode
abbrev pub method_text : Option (List ℕ) → (opcode : ℤ) → List ℕ
method_text (Some name) opcode = shown_text name
method_text None opcode = codes "opcode " ++ signed_decimal opcode

-- to the daemon, or from it
abbrev pub way_text : (to_daemon : Bool) → List ℕ
way_text to_daemon = if to_daemon then codes " > " else codes " < "

abbrev pub whose_text : (client : ℤ) → (interface : List ℕ) → (target : ℤ) → List ℕ
whose_text client interface target =
    codes "client " ++ (signed_decimal client ++ (codes ", " ++ (shown_text interface ++ (codes " " ++ (signed_decimal target ++ codes " ")))))

-- the head of a message, as 12:01:03.0412 > client 34, ClientNode 7 port_set_param
abbrev pub head_text : Message → List ℕ
head_text m =
    time_text m.time ++ (way_text m.to_daemon ++ (whose_text m.client (unwrap_or m.interface (codes "object")) m.object ++ method_text m.method m.opcode))

-- the head of a value, where it is a recorded message
abbrev pub head_in : Tree → Option (List ℕ)
head_in (struct vs) = option_map head_text (message_in vs)
head_in v = None

-- ---- Comparisons

-- members with 0 in place of the time and the process of a recorded message
abbrev pub without_run : Trees → Trees
without_run (member mark (member time (member way (member client (member process vs))))) =
    member mark (member (fixed (long (pos 0))) (member way (member client (member (fixed (int (pos 0))) vs))))
without_run vs = vs

-- a recorded message with these; another value as it is
abbrev pub across_runs : Tree → Tree
across_runs (struct vs) = struct (if is_some (message_in vs) then without_run vs else vs)
across_runs v = v
