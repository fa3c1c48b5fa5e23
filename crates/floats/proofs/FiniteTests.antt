-- The finite are what lies strictly between the infinities. Assumes nothing.
use Rattle.std.proofs.Common.{◌≡◌, true, false, sym, refl}
use lib.Ieee.{Float, nan, inf, fin, lt}
use lib.Ieee.Scale.{finite}

pub above_lowest : (x : Float) → lt (inf true) x ≡ true → lt x (inf false) ≡ finite x
unfolding lt
above_lowest nan h = refl
above_lowest (inf true) h = sym h
above_lowest (inf false) h = refl
above_lowest (fin s m e) h = refl

pub not_above : (x : Float) → lt (inf true) x ≡ false → false ≡ finite x
unfolding lt
not_above nan h = refl
not_above (inf s) h = refl
not_above (fin s m e) h = sym h
