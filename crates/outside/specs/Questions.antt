-- What noting a question does to a list of questions. Assumes nothing.
use Rattle.std.specs.Prelude.{◌≡◌, true, false, [], ◌∷◌, ◌++◌, is_ok, vec_items}
use Rattle.calendar.specs.declared.stamp.Stamp.{Stamp}
use Rattle.outside.specs.declared.questions.Questions.{Questions}

-- the question stands behind those before it; or it is lost, and those before it stay
pub record Noted (before : Questions) (at : Stamp) (after : Questions) : Type 0 where
  pub whole : is_ok after.noted ≡ true → (is_ok before.noted ≡ true) × (vec_items after.stamps ≡ vec_items before.stamps ++ at ∷ [])
  pub lost : is_ok after.noted ≡ false → vec_items after.stamps ≡ vec_items before.stamps
