-- What the words of the command line ask for.
-- Assumes nothing.
use Rattle.std.specs.Prelude.{ℕ, cond, eqb, Option, Some, None}
use Rattle.bench.specs.declared.arguments.Action.{Action}
use Rattle.bench.specs.declared.arguments.Action.TheVariants as Asked
use Rattle.bench.specs.declared.arguments.Density.{Density}
use Rattle.bench.specs.declared.arguments.Direction.{Direction}
use Rattle.bench.specs.declared.arguments.Request.{Request}
use Rattle.bench.specs.declared.arguments.Request.TheVariants.{Write, Read}

abbrev pub write_of : Option Density → Option Request
write_of (Some density) = Some (Write density)
write_of None = None

abbrev pub read_of : Option Density → Option Direction → Option Request
read_of (Some density) (Some direction) = Some (Read density direction)
read_of (Some density) None = None
read_of None _ = None

-- so many words, the program's own name among them: writing takes a density, reading a density and a direction
abbrev pub request_of : ℕ → Option Action → Option Density → Option Direction → Option Request
request_of count (Some Asked.Write) density _ = cond (eqb count 3) (write_of density) None
request_of count (Some Asked.Read) density direction = cond (eqb count 4) (read_of density direction) None
request_of count None _ _ = None
