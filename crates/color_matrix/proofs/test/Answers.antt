-- Each case is tested by its own function.
use Rattle.color_matrix.proofs.test.Goals as goal

pub returns-in-Matrix : goal.returns-in-Matrix
returns-in-Matrix c = rw c.in-Matrix.is c.test_matrix.ensures

pub returns-in-Saturate : goal.returns-in-Saturate
returns-in-Saturate c = rw c.in-Saturate.is c.test_saturate.ensures

pub returns-in-HueRotate : goal.returns-in-HueRotate
returns-in-HueRotate c = rw c.in-HueRotate.is c.test_rotation.ensures
