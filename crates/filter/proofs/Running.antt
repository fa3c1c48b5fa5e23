-- The contracts of `run` and of `reaches`: how a refusal and a success show them, and that `reaches` has one outcome.
use Prim.Native.Nat.{◌*◌, ◌<◌}
use mathlib.Core.Path.{◌≡◌, sym, ◌∙◌}
use mathlib.Core.Bool.{Bool, false≢true}
use native.Mathlib.Nat.{mul-le-mul}
use native.Mathlib.Omega.{arith}
use lib.ListN.{length}
use Rattle.std.specs.Prelude.{Result, Ok, Err}
use Rattle.sheet.specs.Answer.{Done}
use Rattle.sheet.specs.Contract.{was, became}
use Rattle.sheet.specs.Size.{Sized}
use Rattle.sheet.specs.Tabulate.{zeros}
use Rattle.sheet.proofs.Answers.{sheets_sized}
use Rattle.sheet.proofs.Contracts.{holds_refused, holds_done}
use Rattle.recipe.specs.declared.Refused.{Refused}
use Rattle.recipe.specs.Tests.{RunAnswer, step_of}
use Rattle.filter.specs.Call.{Call, slots_were, slots_became, lengths, answer, all_steps, Ran}
use Rattle.filter.specs.Reach.{step_reads, result, ReachesExactly}
use Rattle.filter.specs.Inner.Engine.{reaches_at}
use Rattle.filter.proofs.Works.{Covers, reads_cover}
use Rattle.filter.proofs.Accepted.{sheets_passed}
use Rattle.filter.proofs.Reaching.{reaches_some, some_reaches}

module _ {c : Call} {a : RunAnswer} (e : a ≡ answer c) where
  pub ran_refused : {r : RunAnswer} {u : Refused} → a ≡ Err u → r ≡ Err u → slots_became c ≡ slots_were c → became c.scratch ≡ was c.scratch → Ran c r
  ran_refused {u = u} h p k s = let f : answer c ≡ Err u = sym e ∙ h in record { answered = p ∙ sym f; sheets = rw f k; cleared = holds_refused f s }

  pub ran_done : a ≡ Done → slots_became c ≡ all_steps c → became c.scratch ≡ zeros (length (was c.scratch)) → Ran c Done
  ran_done d k z = let f : answer c ≡ Done = sym e ∙ d in record { answered = sym f; sheets = rw f k; cleared = holds_done f z }

-- what a run that is answered Done tells of its sizes
module _ (c : Call) (d : answer c ≡ Done) where
  call_sized : Sized c.size.width c.size.height
  call_sized = sheets_sized _ _ _ (sheets_passed c.recipe c.kind _ c.size.width c.size.height (lengths (slots_were c) (was c.scratch)) d)

  first_byte : 0 < 4 * c.size.width * c.size.height
  first_byte =
      let size = call_sized in
      mul-le-mul {n₁ = 1} {m₁ = 1} {n₂ = 4 * c.size.width} {m₂ = c.size.height} (let z = size.wide in omega arith) size.high

  pub call_covered : Covers (was c.pool) c.size.width c.size.height (step_reads (was c.pool) c.size.width c.size.height)
  call_covered = reads_cover _ _ _ call_sized

-- a yes comes with the first byte's way to the source
pub reaches_done : {c : Call} {a : RunAnswer} {b : Bool} → a ≡ answer c → a ≡ Done → b ≡ reaches_at (step_of c.recipe) c.recipe.count (result c.recipe) → ReachesExactly c (Ok b)
reaches_done {c} {a} {b} f g e =
    let d : answer c ≡ Done = sym f ∙ g in
    let R = step_reads (was c.pool) c.size.width c.size.height in
    record {
      answered = sym d;
      only = λ t. let q = reaches_some _ _ _ R (call_covered c d) (step_of c.recipe) c.recipe.count (result c.recipe) (sym e ∙ t) 0 (first_byte c d) in record {
        accepted = d;
        byte = 0;
        inside = first_byte c d;
        origin = q.0;
        way = q.1;
      };
      always = λ t. e ∙ some_reaches _ _ _ R (call_covered c d) (step_of c.recipe) c.recipe.count (result c.recipe) t.byte t.origin t.way;
    }

pub reaches_refused : {c : Call} {a : RunAnswer} {r : Result Bool Refused} {u : Refused} → a ≡ answer c → a ≡ Err u → r ≡ Err u → ReachesExactly c r
reaches_refused {c} {a} {r} {u} e h p = rw p (record {
  answered = sym h ∙ e;
  only = λ z. absurd (false≢true z);
  always = λ t. let q : ◌≡◌ {A = RunAnswer} (Err u) Done = sym h ∙ (e ∙ t.accepted) in cc;
})
