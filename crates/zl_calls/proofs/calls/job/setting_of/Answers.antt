use Rattle.zl_calls.proofs.calls.Numbered.{no_action, no_condition, no_mode, all_known}
use Rattle.zl_calls.proofs.calls.job.setting_of.Goals as goal

-- src/calls/job.rt:101:9
pub returns-in_default : goal.returns-in_default
returns-in_default c = no_mode c.args.mode c.args.condition c.args.action (c.in_default.ensures {u = tt}).missing

-- src/calls/job.rt:104:9
pub returns-in_default-from_number : goal.returns-in_default-from_number
returns-in_default-from_number c =
    no_condition c.args.mode c.args.condition c.args.action c.in-Some.mode (c.in-Some.ensures {u = tt}).found
    (c.in_default-from_number.ensures {u = tt}).missing

-- src/calls/job.rt:107:9
pub returns-in_default-from_number-2 : goal.returns-in_default-from_number-2
returns-in_default-from_number-2 c =
    no_action c.args.mode c.args.condition c.args.action c.in-Some.mode (c.in-Some.ensures {u = tt}).found c.in-Some-from_number.condition
    (c.in-Some-from_number.ensures {u = tt}).found (c.in_default-from_number-2.ensures {u = tt}).missing

-- src/calls/job.rt:97:1
pub returns : goal.returns
returns c =
    all_known c.args.mode c.args.condition c.args.action c.in-Some.mode (c.in-Some.ensures {u = tt}).found c.in-Some-from_number.condition
    (c.in-Some-from_number.ensures {u = tt}).found c.in-Some-from_number-2.action (c.in-Some-from_number-2.ensures {u = tt}).found
