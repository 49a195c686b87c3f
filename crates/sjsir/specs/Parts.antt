-- What the words ask for, without the loans that the code has of them.
use Rattle.std.specs.Prelude.{map, string_bytes}
use Rattle.sjsir.specs.declared.words.Asked.{Asked}
use Rattle.sjsir.specs.declared.words.Asked.TheVariants as words
use Rattle.sjsir.specs.Command.{Command, help, version, print, make}

abbrev pub command_of : Asked → Command
command_of words.Help = help
command_of words.Version = version
command_of (words.Print files) = print (map string_bytes files.now)
command_of (words.Make listing out) = make listing.now out.now
