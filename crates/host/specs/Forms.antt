-- The form of a report, by the fields that the code keeps; and versions by their numbers.
use Rattle.std.specs.Prelude.{◌≡◌, ℕ}
use Rattle.isa_model.specs.declared.versions.Version.{Version}
use Rattle.isa_model.specs.Code.Versions.{version_number}
use Rattle.isa_model.specs.Reporting.Reports.{ReportForm}
use Rattle.host.specs.declared.forms.ReportForm.{ReportForm as Fields}

abbrev pub report_form_by : Fields → ReportForm
report_form_by form = record { limit = form.limit; program = form.program; stream = form.stream }

-- a version by its number
abbrev pub IsVersionOf : ℕ → Version → Type 0
IsVersionOf number v = (w : Version) → number ≡ version_number w → v ≡ w
