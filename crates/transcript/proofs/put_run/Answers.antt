use Rattle.transcript.proofs.Printing.{run_goes, run_stops}
use Rattle.transcript.proofs.put_run.Goals as goal

pub returns-in-Ok : goal.returns-in-Ok
returns-in-Ok c = run_goes _ _ _ _ c.requires.empty c.push_str.ensures.bytes _ c.in-Ok.ensures c.put_rest.ensures

pub returns-in-Err : goal.returns-in-Err
returns-in-Err c = run_stops _ _ _ _ c.requires.empty c.push_str.ensures.bytes _ c.in-Err.ensures c.put_refused.ensures.text
