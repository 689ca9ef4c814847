use Rattle.zlab.specs.Assembling.{image_begun, line_begun}
use Rattle.zlab.proofs.Answering.{text_unanswered}
use Rattle.zlab.proofs.Common.{on_err}
use Rattle.zlab.proofs.assembling.asm_engine.Goals as goal

pub returns-in_err-bytes-clause-err : goal.returns-in_err-bytes-clause-err
returns-in_err-bytes-clause-err g c = on_err c.from_residual.result (text_unanswered _ _ _)

pub returns-in_err-write_all-in-Image-clause-err : goal.returns-in_err-write_all-in-Image-clause-err
returns-in_err-write_all-in-Image-clause-err g c =
    let read = c.in_ok-bytes.ensures.read in
    let leads = rw c.in-Image.is at read.leads in
    let written = rw c.as_slice.ensures.value at (c.in_err-write_all-in-Image.ensures).err in
    on_err c.from_residual-in_err-write_all-in-Image.result
    (record {
      text = read.text;
      is_text = read.is_text;
      begins = image_begun _ (record { bytes = c.in-Image.bytes.items; is_image = leads; written = written });
    })

pub returns-in_err-write_fault-in-Refused-clause-err : goal.returns-in_err-write_fault-in-Refused-clause-err
returns-in_err-write_fault-in-Refused-clause-err g c =
    let read = c.in_ok-bytes.ensures.read in
    let leads = rw c.in-Refused.is at read.leads in
    on_err c.from_residual-in_err-write_fault-in-Refused.result
    (record {
      text = read.text;
      is_text = read.is_text;
      begins = line_begun _ (record { fault = c.in-Refused.fault; none = leads; written = (c.in_err-write_fault-in-Refused.ensures).err });
    })
