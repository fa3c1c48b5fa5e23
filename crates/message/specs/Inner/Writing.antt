-- What the writer's private functions promise: which numbers were written, and where they end at most.
use Rattle.std.specs.Prelude.{ℕ, ◌+◌, ◌≤◌, List, [], ◌∷◌}
use Rattle.lighting.specs.declared.light.LightSource.{LightSource}
use Rattle.lighting.specs.declared.Color.{Color}
use Rattle.number.specs.Number.{Put}
use Rattle.number.specs.Words.{bytes_of}
use Rattle.message.specs.declared.writer.Writer.{Writer}
use Rattle.message.specs.Fields.{Field, up_to, float, write}
use Rattle.message.specs.Steps.{light_parts}

-- the numbers were written from a writer's place on, and took so many bytes at most
pub record Wrote (most : ℕ) (words : List ℕ) (before after : Writer) : Type 0 where
  pub put : Put before.out.now before.at (bytes_of words) after.out.now after.at
  pub bounded : after.at ≤ before.at + most

-- the most bytes of a kind and what it calls for, and of a step
abbrev pub choice_most : ℕ
choice_most = 21474836490

abbrev pub step_most : ℕ
step_most = 85899346045

-- the numbers of a colour and a light
abbrev light_row : List Field
light_row = up_to 1 ∷ float ∷ float ∷ float ∷ []

abbrev pub lit_words : Color → LightSource → List ℕ
lit_words color light = color.red ∷ color.green ∷ color.blue ∷ write light_row (light_parts light)
