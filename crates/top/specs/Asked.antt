-- What the code takes words for.
use Rattle.std.specs.Prelude.{◌≡◌, Option, Some, None}
use Rattle.top.specs.Command as command
use Rattle.top.specs.declared.words.Request.{Request}

-- the request that words ask for, or none
abbrev pub Asks : Option Request → Option command.Request → Type 0
Asks None asked = asked ≡ None
Asks (Some a) asked = asked ≡ Some (command.asked_for a.files.now a.most)
