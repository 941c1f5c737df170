-- The table of replies as numerals, under the trade words, to be held line by line against document 01's table (to 14) and document 02's (from 15).
use Rattle.std.specs.Prelude.{◌≡◌, Ok}
use Rattle.reply.specs.Number.{number_of, reply_number}
use Rattle.reply.specs.declared.Refusal.TheVariants.{WrongSize, NotABase, TooShort, UnequalLengths, NoSuchLoop, UnknownName, TooManyGlues, DuplicatePair, OutOfRange, NullBinds, NotAFriend, TooManyStates, RankTooHigh, BadDeck, TooDilute, AmbientOut, PotentialOut, BareScaffold, WeightOut, NotARing, TwoStars, NotAJob, NoneUnder}

-- the numbers that the definitions give are the table's; proofs/Table.antt shows it
pub record ReplyTable : Type 0 where
  pub answered : reply_number (Ok tt) ≡ 0
  pub size : number_of WrongSize ≡ 1
  pub base : number_of NotABase ≡ 2
  pub short : number_of TooShort ≡ 3
  pub unequal : number_of UnequalLengths ≡ 4
  pub loop : number_of NoSuchLoop ≡ 5
  pub unknown : number_of UnknownName ≡ 6
  pub glues : number_of TooManyGlues ≡ 7
  pub twice : number_of DuplicatePair ≡ 8
  pub range : number_of OutOfRange ≡ 9
  pub null : number_of NullBinds ≡ 10
  pub stranger : number_of NotAFriend ≡ 11
  pub many : number_of TooManyStates ≡ 12
  pub rank : number_of RankTooHigh ≡ 13
  pub deck : number_of BadDeck ≡ 14
  pub dilute : number_of TooDilute ≡ 15
  pub ambient : number_of AmbientOut ≡ 16
  pub potential : number_of PotentialOut ≡ 17
  pub bare : number_of BareScaffold ≡ 18
  pub weight : number_of WeightOut ≡ 19
  pub ring : number_of NotARing ≡ 20
  pub stars : number_of TwoStars ≡ 21
  pub job : number_of NotAJob ≡ 22
  pub none : number_of NoneUnder ≡ 23
