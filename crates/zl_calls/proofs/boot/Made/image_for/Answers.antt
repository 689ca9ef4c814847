use Rattle.zl_calls.proofs.Common.{arith, inl, inr, length, length-map, process_entry, program_value, seen, sym, ◌∙◌, ◌≡◌}
use Rattle.zl_calls.proofs.boot.BootFaults.{job_seen, known_seen, fault_no_program, fault_unknown, fault_handles, fault_misfits, fault_needs, fault_limit}
use Rattle.zl_calls.proofs.boot.BootFaults.{no_fault}
use Rattle.zl_calls.proofs.boot.BootDeclared.{needs_seen}
use Rattle.zl_calls.proofs.boot.Made.image_for.Goals as goal
use Rattle.zl_calls.proofs.boot.Made.image_for.Goals.{then-not-is_job-via-then-not-is_job, then-not-is_job-via-else-not-is_job+then-not-knows}
use Rattle.zl_calls.proofs.boot.Made.image_for.Goals.{then-handles-gt-MOST-via-then-handles-gt-MOST}
use Rattle.zl_calls.proofs.boot.Made.image_for.Goals.{then-handles-gt-MOST-via-else-handles-gt-MOST+then-not-may_give}
use Rattle.zl_calls.proofs.boot.Made.image_for.Goals.{then-len-ge-MOST_PROCESSES-via-then-len-ge-MOST_PROCESSES}
use Rattle.zl_calls.proofs.boot.Made.image_for.Goals.{then-len-ge-MOST_PROCESSES-via-else-len-ge-MOST_PROCESSES+then-lacks_koids}

pub returns-in_default-clause-fault : goal.returns-in_default-clause-fault
returns-in_default-clause-fault c =
    λ word. fault_no_program c.args.library.now (seen c.args.self.now) c.args.job c.args.program word c.args.handles.now (c.in_default.ensures {u = tt}).missing

pub returns-then-not-is_job-clause-fault : goal.returns-then-not-is_job-clause-fault
returns-then-not-is_job-clause-fault c = λ word.
    let unknown = fault_unknown c.args.library.now (seen c.args.self.now) c.args.job c.args.program word c.args.handles.now in
    let in_job = job_seen c.args.self.now.processes.items c.args.self.now.objects c.args.job in
    elim c.then-not-is_job.branch [
      | then-not-is_job-via-then-not-is_job w ↦ unknown (inl (in_job ∙ (sym c.is_job.ensures ∙ w.if-not-is_job.true)))
      | then-not-is_job-via-else-not-is_job+then-not-knows w ↦
          unknown (inr (known_seen c.args.self.now.objects.objects c.args.handles.now ∙ (sym w.knows.ensures ∙ w.if-not-knows.true)))
    ]

pub returns-then-handles-gt-MOST-clause-fault : goal.returns-then-handles-gt-MOST-clause-fault
returns-then-handles-gt-MOST-clause-fault c = λ word.
    let in_job = job_seen c.args.self.now.processes.items c.args.self.now.objects c.args.job ∙ (sym c.is_job.ensures ∙ c.if-not-is_job.false) in
    let known = known_seen c.args.self.now.objects.objects c.args.handles.now ∙ (sym c.knows.ensures ∙ c.if-not-knows.false) in
    let handles = fault_handles c.args.library.now (seen c.args.self.now) c.args.job c.args.program word c.args.handles.now (program_value c.in-Some.listed.now)
    (c.in-Some.ensures {u = tt}).found in_job known in
    elim c.then-handles-gt-MOST.branch [
      | then-handles-gt-MOST-via-then-handles-gt-MOST w ↦ handles (inl w.if-handles-gt-MOST.true)
      | then-handles-gt-MOST-via-else-handles-gt-MOST+then-not-may_give w ↦ handles (inr (sym w.may_give.ensures ∙ w.if-not-may_give.true))
    ]

pub returns-then-are_misfits-clause-fault : goal.returns-then-are_misfits-clause-fault
returns-then-are_misfits-clause-fault c = λ word.
    let in_job = job_seen c.args.self.now.processes.items c.args.self.now.objects c.args.job ∙ (sym c.is_job.ensures ∙ c.if-not-is_job.false) in
    let known = known_seen c.args.self.now.objects.objects c.args.handles.now ∙ (sym c.knows.ensures ∙ c.if-not-knows.false) in
    fault_misfits c.args.library.now (seen c.args.self.now) c.args.job c.args.program word c.args.handles.now (program_value c.in-Some.listed.now)
    (c.in-Some.ensures {u = tt}).found in_job known
    c.if-handles-gt-MOST.false (sym c.may_give.ensures ∙ c.if-not-may_give.false) (sym c.are_misfits.ensures ∙ c.if-are_misfits.true)

pub returns-then-lacks_need-clause-fault : goal.returns-then-lacks_need-clause-fault
returns-then-lacks_need-clause-fault c = λ word.
    let in_job = job_seen c.args.self.now.processes.items c.args.self.now.objects c.args.job ∙ (sym c.is_job.ensures ∙ c.if-not-is_job.false) in
    let known = known_seen c.args.self.now.objects.objects c.args.handles.now ∙ (sym c.knows.ensures ∙ c.if-not-knows.false) in
    let needs = needs_seen c.args.self.now.processes.items c.args.self.now.objects c.args.job (program_value c.in-Some.listed.now)
    ∙ (sym c.lacks_need.ensures ∙ c.if-lacks_need.true) in
    fault_needs c.args.library.now (seen c.args.self.now) c.args.job c.args.program word c.args.handles.now (program_value c.in-Some.listed.now)
    (c.in-Some.ensures {u = tt}).found in_job known
    c.if-handles-gt-MOST.false (sym c.may_give.ensures ∙ c.if-not-may_give.false) (sym c.are_misfits.ensures ∙ c.if-are_misfits.false) needs

pub returns-then-len-ge-MOST_PROCESSES-clause-fault : goal.returns-then-len-ge-MOST_PROCESSES-clause-fault
returns-then-len-ge-MOST_PROCESSES-clause-fault c = λ word.
    let in_job = job_seen c.args.self.now.processes.items c.args.self.now.objects c.args.job ∙ (sym c.is_job.ensures ∙ c.if-not-is_job.false) in
    let known = known_seen c.args.self.now.objects.objects c.args.handles.now ∙ (sym c.knows.ensures ∙ c.if-not-knows.false) in
    let needs = needs_seen c.args.self.now.processes.items c.args.self.now.objects c.args.job (program_value c.in-Some.listed.now)
    ∙ (sym c.lacks_need.ensures ∙ c.if-lacks_need.false) in
    let limit = fault_limit c.args.library.now (seen c.args.self.now) c.args.job c.args.program word c.args.handles.now (program_value c.in-Some.listed.now)
    (c.in-Some.ensures {u = tt}).found in_job known c.if-handles-gt-MOST.false (sym c.may_give.ensures ∙ c.if-not-may_give.false)
    (sym c.are_misfits.ensures ∙ c.if-are_misfits.false) needs in
    let count : length (seen c.args.self.now).processes ≡ length c.args.self.now.processes.items = length-map c.args.self.now.processes.items process_entry in
    elim c.then-len-ge-MOST_PROCESSES.branch [
      | then-len-ge-MOST_PROCESSES-via-then-len-ge-MOST_PROCESSES w ↦
          limit (inl (omega (arith, count, c.len.ensures, w.if-len-ge-MOST_PROCESSES.true, c.args.self.now.processes.ok.0)))
      | then-len-ge-MOST_PROCESSES-via-else-len-ge-MOST_PROCESSES+then-lacks_koids w ↦ limit (inr (sym w.lacks_koids.ensures ∙ w.if-lacks_koids.true))
    ]

pub returns-clause-fault : goal.returns-clause-fault
returns-clause-fault c = λ word.
    let in_job = job_seen c.args.self.now.processes.items c.args.self.now.objects c.args.job ∙ (sym c.is_job.ensures ∙ c.if-not-is_job.false) in
    let known = known_seen c.args.self.now.objects.objects c.args.handles.now ∙ (sym c.knows.ensures ∙ c.if-not-knows.false) in
    let count : length (seen c.args.self.now).processes ≡ length c.args.self.now.processes.items = length-map c.args.self.now.processes.items process_entry in
    let needs = needs_seen c.args.self.now.processes.items c.args.self.now.objects c.args.job (program_value c.in-Some.listed.now)
    ∙ (sym c.lacks_need.ensures ∙ c.if-lacks_need.false) in
    no_fault c.args.library.now (seen c.args.self.now) c.args.job c.args.program word c.args.handles.now (program_value c.in-Some.listed.now)
    (c.in-Some.ensures {u = tt}).found in_job known c.if-handles-gt-MOST.false (sym c.may_give.ensures ∙ c.if-not-may_give.false)
    (sym c.are_misfits.ensures ∙ c.if-are_misfits.false) needs
    (omega (arith, count, c.len.ensures, c.if-len-ge-MOST_PROCESSES.false, c.args.self.now.processes.ok.0)) (sym c.lacks_koids.ensures ∙ c.if-lacks_koids.false)
