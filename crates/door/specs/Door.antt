-- The questions at the door (document 01): the first no is the answer, by its number; 0 is success. Definitions only.
use Rattle.std.specs.Prelude.{ℕ, zero, suc, Bool, true, false, Result, Ok, Err}
use Rattle.door.specs.declared.Answer.{Answer}
use Rattle.door.specs.declared.Refusal.{Refusal}
use Rattle.door.specs.declared.Refusal.TheVariants.{Counts, Sizes, Runs, Numbers, Ranges, Order, Room, Queue, Settings, Screen}

-- question n: a no ends the asking with n, a yes leaves it to the later questions
abbrev pub ask : ℕ → Bool → ℕ → ℕ
ask n true later = later
ask n false later = n

-- the largest time, duration, headway or delay size
abbrev pub time_limit : ℕ
time_limit = 1048575

-- a refusal writes no answer: its value is 0
abbrev pub refusal : ℕ → Answer
refusal n = record { code = n; value = 0 }

abbrev pub success : ℕ → Answer
success v = record { code = 0; value = v }

-- what an entry answers whose questions gave this number, and whose value is v where all are yes
abbrev pub answer : ℕ → ℕ → Answer
answer zero v = success v
answer (suc n) v = refusal (suc n)

-- THE NUMBER of each question
abbrev pub number_of : Refusal → ℕ
number_of Counts = 1
number_of Sizes = 2
number_of Runs = 3
number_of Numbers = 4
number_of Ranges = 5
number_of Order = 6
number_of Room = 7
number_of Queue = 8
number_of Settings = 14
number_of Screen = 15

-- THE CODE of an outcome, as a caller in C reads it
abbrev pub code_of : {A : Type 0} → Result A Refusal → ℕ
code_of (Ok a) = 0
code_of (Err q) = number_of q

-- an outcome with one number, as a caller in C reads it
abbrev pub answer_of : Result ℕ Refusal → Answer
answer_of (Ok v) = success v
answer_of (Err q) = refusal (number_of q)
