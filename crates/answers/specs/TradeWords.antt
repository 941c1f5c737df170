-- The documents' trade word of each refusal.
use Rattle.std.specs.Prelude.{List, ℕ}
use lib.Chars.{codes}
use Rattle.reply.specs.declared.Refusal.{Refusal}
use Rattle.reply.specs.declared.Refusal.TheVariants.{WrongSize, NotABase, TooShort, UnequalLengths, NoSuchLoop, UnknownName, TooManyGlues, DuplicatePair, OutOfRange, NullBinds, NotAFriend, TooManyStates, RankTooHigh, BadDeck, TooDilute, AmbientOut, PotentialOut, BareScaffold, WeightOut, NotARing, TwoStars, NotAJob, NoneUnder}

-- the trade word
abbrev pub trade_word : Refusal → List ℕ
trade_word WrongSize = codes "size"
trade_word NotABase = codes "base"
trade_word TooShort = codes "short"
trade_word UnequalLengths = codes "unequal"
trade_word NoSuchLoop = codes "loop"
trade_word UnknownName = codes "unknown"
trade_word TooManyGlues = codes "glues"
trade_word DuplicatePair = codes "twice"
trade_word OutOfRange = codes "range"
trade_word NullBinds = codes "null"
trade_word NotAFriend = codes "stranger"
trade_word TooManyStates = codes "many"
trade_word RankTooHigh = codes "rank"
trade_word BadDeck = codes "deck"
trade_word TooDilute = codes "dilute"
trade_word AmbientOut = codes "ambient"
trade_word PotentialOut = codes "potential"
trade_word BareScaffold = codes "bare"
trade_word WeightOut = codes "weight"
trade_word NotARing = codes "ring"
trade_word TwoStars = codes "stars"
trade_word NotAJob = codes "job"
trade_word NoneUnder = codes "none"
