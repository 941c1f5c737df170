-- The table of replies of documents 01 and 02: the number of each refusal, and 0 for an answer.
use Rattle.std.specs.Prelude.{ℕ, Result, Ok, Err}
use Rattle.reply.specs.declared.Refusal.{Refusal}
use Rattle.reply.specs.declared.Refusal.TheVariants.{WrongSize, NotABase, TooShort, UnequalLengths, NoSuchLoop, UnknownName, TooManyGlues, DuplicatePair, OutOfRange, NullBinds, NotAFriend, TooManyStates, RankTooHigh, BadDeck, TooDilute, AmbientOut, PotentialOut, BareScaffold, WeightOut, NotARing, TwoStars, NotAJob, NoneUnder}
use Rattle.reply.specs.declared.Refused.{Refused}

-- the number of a refusal; 1 to 14 are document 01's, higher ones document 02's; src/lib.rt has its trade word beside each
abbrev pub number_of : Refusal → ℕ
number_of WrongSize = 1
number_of NotABase = 2
number_of TooShort = 3
number_of UnequalLengths = 4
number_of NoSuchLoop = 5
number_of UnknownName = 6
number_of TooManyGlues = 7
number_of DuplicatePair = 8
number_of OutOfRange = 9
number_of NullBinds = 10
number_of NotAFriend = 11
number_of TooManyStates = 12
number_of RankTooHigh = 13
number_of BadDeck = 14
number_of TooDilute = 15
number_of AmbientOut = 16
number_of PotentialOut = 17
number_of BareScaffold = 18
number_of WeightOut = 19
number_of NotARing = 20
number_of TwoStars = 21
number_of NotAJob = 22
number_of NoneUnder = 23

-- the number of a call that is answered
abbrev pub answered : ℕ
answered = 0

-- what a call's checks reply: they pass, or one refuses
abbrev pub Reply : Type 0
Reply = Result Unit Refused

-- the number of a reply
abbrev pub reply_number : Reply → ℕ
reply_number (Ok u) = answered
reply_number (Err e) = number_of e.refusal

-- the number of what a call says whose refusals have no place, whatever it gives
abbrev pub answer_number : {A : Type 0} → Result A Refusal → ℕ
answer_number (Ok x) = answered
answer_number (Err refusal) = number_of refusal
