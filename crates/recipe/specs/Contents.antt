-- What the slots hold while a recipe is tested, and what each step makes.
use Rattle.std.specs.Prelude.{ℕ, zero, suc, Bool, cond, List, [], ◌∷◌, get_or, set, Option, Some, None, is_some, eqb, ltb}
use Rattle.recipe.specs.declared.Kind.{Kind}
use Rattle.recipe.specs.declared.Kind.TheVariants.{Straight, Premultiplied}
use Rattle.recipe.specs.declared.Work.{Work}
use Rattle.recipe.specs.declared.Work.TheVariants.{Morphology, Arithmetic, ColorMatrix, ComponentTransfer, ConvolveMatrix, DisplacementMap, Turbulence, DiffuseLighting, SpecularLighting}
use Rattle.recipe.specs.declared.Inputs.{Inputs}
use Rattle.recipe.specs.declared.Inputs.TheVariants as inputs
use Rattle.recipe.specs.declared.Step.{Step}

-- a slot holds nothing yet, or a sheet of a kind
abbrev pub Content : Type 0
Content = Option Kind

-- what the slots 0 to 3 hold
abbrev pub Contents : Type 0
Contents = List Content

-- what is made where the input is of the kind that is wanted; nothing where it is not
abbrev pub of_kind : Kind → Content → Content → Content
of_kind Straight (Some Straight) made = made
of_kind Premultiplied (Some Premultiplied) made = made
of_kind Straight (Some Premultiplied) made = None
of_kind Premultiplied (Some Straight) made = None
of_kind k None made = None

-- what is made where the input is a sheet; nothing where it is not
abbrev pub of_either : Content → Content → Content
of_either None made = None
of_either (Some k) made = made

-- before the first step: slot 0 a sheet of the declared kind, the others nothing
abbrev pub at_first : Kind → Contents
at_first k = Some k ∷ None ∷ None ∷ None ∷ []

-- a slot outside 0..=3 holds nothing
abbrev pub content_in : ℕ → Contents → Content
content_in s x = cond (ltb 3 s) None (get_or x s None)

-- with a new content in slot 1, 2 or 3; any other slot changes nothing
abbrev pub holding : ℕ → Content → Contents → Contents
holding s new x = cond (eqb s 0) x (set x s new)

abbrev pub is_sheet : Content → Bool
is_sheet c = is_some c

-- a convolution takes straight colour where it preserves alpha, and premultiplied colour where not
abbrev pub convolved : Bool → Content → Content
convolved preserve input = of_kind (cond preserve Straight Premultiplied) input (Some Premultiplied)

-- ---- one more primitive adds a line to each of these two
-- the slots that are read
abbrev pub inputs_of : Work → Inputs
inputs_of (Morphology a op rx ry) = inputs.One a
inputs_of (Arithmetic a b k1 k2 k3 k4) = inputs.Two a b
inputs_of (ColorMatrix a m) = inputs.One a
inputs_of (ComponentTransfer s r g b a) = inputs.One s
inputs_of (ConvolveMatrix a m) = inputs.One a
inputs_of (DisplacementMap a b xs ys sx sy scale) = inputs.Two a b
inputs_of (Turbulence t) = inputs.None
inputs_of (DiffuseLighting a light scale constant color) = inputs.One a
inputs_of (SpecularLighting a light scale constant exponent color) = inputs.One a

-- the kind of what is made, from what the slots that are read hold
abbrev pub work_makes : Work → Contents → Content
work_makes (Morphology a op rx ry) x = of_kind Premultiplied (content_in a x) (Some Premultiplied)
work_makes (Arithmetic a b k1 k2 k3 k4) x = of_kind Premultiplied (content_in a x) (of_kind Premultiplied (content_in b x) (Some Premultiplied))
work_makes (ColorMatrix a m) x = of_kind Straight (content_in a x) (Some Straight)
work_makes (ComponentTransfer s r g b a) x = of_kind Straight (content_in s x) (Some Straight)
work_makes (ConvolveMatrix a m) x = convolved m.preserve_alpha (content_in a x)
work_makes (DisplacementMap a b xs ys sx sy scale) x = of_kind Straight (content_in b x) (content_in a x)
work_makes (Turbulence t) x = Some Straight
work_makes (DiffuseLighting a light scale constant color) x = of_either (content_in a x) (Some Straight)
work_makes (SpecularLighting a light scale constant exponent color) x = of_either (content_in a x) (Some Premultiplied)

-- what the slots hold after the first n steps, where they held x at first
unfoldable pub contents : (ℕ → Step) → Contents → ℕ → Contents
contents f x zero = x
contents f x (suc n) = holding (f n).output (work_makes (f n).work (contents f x n)) (contents f x n)
