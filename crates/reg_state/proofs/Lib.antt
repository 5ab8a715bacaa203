mod Common
pub mod Numbers
pub mod GoingLaws
pub mod ConstantsLaws
pub mod KindCoverLaws
pub mod KindLaws
pub mod RelationsLaws
