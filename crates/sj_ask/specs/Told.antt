-- What an oracle tells of the questions that it answered.
use Rattle.std.specs.Prelude.{List, ◌++◌, Option, Some, None}
use Rattle.sj_ask.specs.declared.logs.Log.{Log}
use Rattle.sj_ask.specs.Apart.{Exchange}

-- the log of an oracle, where it tells one: the member that is worked on, and the questions with the answers that were given, in order
abbrev pub Told : Type 0
Told = Option Log

-- with more behind
abbrev pub told_more : Told → List Exchange → Told
told_more None others = None
told_more (Some log) others = Some (record log { asked = log.asked ++ others })
