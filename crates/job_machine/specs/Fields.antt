-- What contracts see of a job's fields.
use Rattle.job_machine.specs.declared.job.Job.TheInside.{Inside}
use Rattle.job_machine.specs.Job.{JobRecord}

abbrev pub record_of : Inside → JobRecord
record_of job =
    record {
      id = job.id;
      kind = job.kind;
      steps = job.steps;
      done = job.done;
      attempt = job.attempt;
      in_flight = job.in_flight;
      state = job.state;
    }
