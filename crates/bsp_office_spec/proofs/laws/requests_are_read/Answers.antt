use Rattle.bsp_office_spec.proofs.EachIsRead.{each_file_is_read}
use Rattle.bsp_office_spec.proofs.RequestsRead.{each_request_is_read}
use Rattle.bsp_office_spec.proofs.laws.requests_are_read.Goals as goal

pub returns-clause-files : goal.returns-clause-files
returns-clause-files c = each_file_is_read

pub returns-clause-requests : goal.returns-clause-requests
returns-clause-requests c = each_request_is_read
