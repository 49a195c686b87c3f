-- What is written to sinks that may tell what they hold.
use Rattle.std.specs.Prelude.{◌≡◌, ℕ, List, [], ◌∷◌, ◌++◌, Option, Some, None, ⊤}
use Rattle.std.specs.List.{flat_map}
use Rattle.sj_outside.specs.declared.answers.PutFile.{PutFile}

-- The sink holds more by these at its end. It tells before and after, or never does.
abbrev pub Appends : {A : Type 0} → Option (List A) → Option (List A) → List A → Type 0
Appends None None more = ⊤
Appends None (Some new) more = ⊥
Appends (Some old) None more = ⊥
Appends (Some old) (Some new) more = new ≡ old ++ more

-- what a call writes: a file, or a line
pub data Event : Type 0 where
  put : PutFile → Event
  line : List ℕ → Event

abbrev pub put_in : Event → List PutFile
put_in (put written) = written ∷ []
put_in (line text) = []

abbrev pub text_in : Event → List ℕ
text_in (put written) = []
text_in (line text) = text

-- the files and the lines of these events were written, in their order
pub record Writes (puts_old puts_new : Option (List PutFile)) (text_old text_new : Option (List ℕ)) (events : List Event) : Type 0 where
  pub puts : Appends puts_old puts_new (flat_map put_in events)
  pub text : Appends text_old text_new (flat_map text_in events)

-- those of the first of these events were written
pub record WritesFront (puts_old puts_new : Option (List PutFile)) (text_old text_new : Option (List ℕ)) (events : List Event) : Type 0 where
  pub front : List Event
  pub rest : List Event
  pub parts : front ++ rest ≡ events
  pub written : Writes puts_old puts_new text_old text_new front
