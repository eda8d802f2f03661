pub mod SamplePipelines
