-- Sessions of servers, and the nodes of servers and of their logs.
use Rattle.std.specs.Prelude.{ℕ, ◌/◌, ◌%◌, zero, suc, List, [], ◌∷◌, ◌++◌, codes}
use Rattle.store_layout.specs.Words.{hexadecimal_digit}

-- so many digits of a number in base 16, the last of them last
unfoldable pub last_digits : ℕ → ℕ → List ℕ
last_digits zero number = []
last_digits (suc count) number = last_digits count (number / 16) ++ hexadecimal_digit (number % 16) ∷ []

-- the session of a drawn number: its 16 digits
abbrev pub session_of : ℕ → List ℕ
session_of number = last_digits 16 number

-- the log of a session
abbrev pub log_of : List ℕ → List ℕ
log_of session = codes "log-" ++ session

-- the node of a server, which has its session
abbrev pub server_path : List ℕ → List ℕ
server_path name = codes "/servers/" ++ name

-- the node of a session's log, which has the log's name
abbrev pub log_path : List ℕ → List ℕ
log_path session = codes "/logs/" ++ session
