-- The faults of a step are faults of the steps that it is part of.
use Rattle.std.proofs.Common.{◌≡◌, ◌⊎◌, ℕ, Err, Ok, Result, inl, refl}
use Rattle.std.specs.Prelude.{IfErr}
use Rattle.guard.specs.declared.register.RegisterFault.{RegisterFault}
use Rattle.guard.specs.declared.register.RegisterFault.TheVariants as register
use Rattle.station_jobs.specs.declared.station_fault.StationFault.{StationFault}
use Rattle.station_jobs.specs.declared.station_fault.StationFault.TheVariants.{BadPolicy, Clock, Damaged, File, Input, NoMemory}
use Rattle.station_jobs.specs.declared.station_fault.StationFault.TheVariants.{Write}
use Rattle.station_jobs.specs.Faults.{IsOfABody, IsOfAFile, IsOfAPolicy, IsOfAQuestion, IsOfARow, IsOfAnAnswer}
use Rattle.station_jobs.specs.Faults.{IsOfAnInput}
use Rattle.station_jobs.specs.Faults.{IsOfBodies, IsOfJudging, IsOfRows, of_register}

pub of_a_file : (e : StationFault) → IsOfAFile e → IsOfAPolicy e
of_a_file File h = tt
of_a_file NoMemory h = tt
of_a_file other h = absurd h

pub of_a_body : (e : StationFault) → IsOfAFile e → IsOfABody e
of_a_body File h = tt
of_a_body NoMemory h = tt
of_a_body other h = absurd h

pub input_of_a_file : (e : StationFault) → IsOfAFile e → IsOfAnInput e
input_of_a_file File h = tt
input_of_a_file NoMemory h = tt
input_of_a_file other h = absurd h

-- ---- faults of judging

pub judging_of_an_input : (Bad : ℕ → Type 0) (e : StationFault) → IsOfAnInput e → IsOfJudging Bad e
judging_of_an_input Bad Input h = tt
judging_of_an_input Bad File h = tt
judging_of_an_input Bad NoMemory h = tt
judging_of_an_input Bad other h = absurd h

pub judging_of_bodies : (Bad : ℕ → Type 0) (e : StationFault) → IsOfBodies e → IsOfJudging Bad e
judging_of_bodies Bad (BadPolicy line) h = absurd h
judging_of_bodies Bad Input h = absurd h
judging_of_bodies Bad other h = h

pub judging_of_a_policy : (Bad : ℕ → Type 0) (e : StationFault) → IsOfAPolicy e
    → ((line : ℕ) → e ≡ BadPolicy line → Bad line) → IsOfJudging Bad e
judging_of_a_policy Bad File h bad = tt
judging_of_a_policy Bad NoMemory h bad = tt
judging_of_a_policy Bad (BadPolicy line) h bad = bad line refl
judging_of_a_policy Bad other h bad = absurd h

-- ---- faults of a question, and of bodies

pub question_of_an_answer : (e : StationFault) → IsOfAnAnswer e → IsOfAQuestion e
question_of_an_answer Write h = tt
question_of_an_answer NoMemory h = tt
question_of_an_answer other h = absurd h

-- a fault of printing, or what holds otherwise
pub of_printing : (P : Type 0) (r : Result (Unit {0}) StationFault) → IfErr r IsOfAnAnswer
    → IfErr r (λ e. IsOfAnAnswer e ⊎ P)
of_printing P (Ok done) only = tt
of_printing P (Err e) only = inl only

pub question_of_a_register : (e : RegisterFault) → IsOfAQuestion (of_register e)
question_of_a_register register.Device = tt
question_of_a_register register.Damaged = tt
question_of_a_register register.NoMemory = tt

pub bodies_of_a_body : (e : StationFault) → IsOfABody e → IsOfBodies e
bodies_of_a_body File h = tt
bodies_of_a_body NoMemory h = tt
bodies_of_a_body Clock h = tt
bodies_of_a_body other h = absurd h

pub bodies_of_a_question : (e : StationFault) → IsOfAQuestion e → IsOfBodies e
bodies_of_a_question File h = tt
bodies_of_a_question Clock h = tt
bodies_of_a_question other h = h

-- ---- faults of rows

pub rows_of_a_register : (e : RegisterFault) → IsOfRows (of_register e)
rows_of_a_register register.Device = tt
rows_of_a_register register.Damaged = tt
rows_of_a_register register.NoMemory = tt

pub rows_of_a_row : (whole : Type 0) (e : StationFault) → IsOfARow whole e → IsOfRows e
rows_of_a_row whole Write h = tt
rows_of_a_row whole NoMemory h = tt
rows_of_a_row whole Damaged h = tt
rows_of_a_row whole other h = absurd h
