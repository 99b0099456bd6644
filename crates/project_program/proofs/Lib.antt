pub mod ListLaws
pub mod StageLaws
pub mod OneLaws
pub mod AlikeProjects
