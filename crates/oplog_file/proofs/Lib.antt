pub mod BadPlaces
pub mod BeginLaws
pub mod ConsultLaws
pub mod CountLaws
pub mod CutLaws
pub mod FillLaws
pub mod FrameLaws
pub mod HeadLaws
pub mod ImageLaws
pub mod OpenLaws
pub mod PassLaws
pub mod ReadLaws
pub mod WholeLaws
pub mod WriteLaws
mod StandardFacts
